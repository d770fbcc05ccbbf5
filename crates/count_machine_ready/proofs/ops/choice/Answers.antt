use Rattle.std.proofs.Common.{◌≡◌, sym, ap, ap₂, ◌∙◌, Some}
use Rattle.sil_ast.specs.declared.member.Member.{Member}
use Rattle.sil_types_declarations.specs.TypeDeclarations.inner.Found.{payload_told}
use Rattle.sil_types_declarations.specs.TypeDefinitions.Declarations.{declarations_of}
use Rattle.sil_types_declarations.specs.TypeDefinitions.Lookups.{Payload, payload_of}
use Rattle.count_machine_ready.proofs.MadeGroups.{choice_made}
use Rattle.count_machine_ready.proofs.ops.choice.Goals as goal

pub returns : goal.returns
returns c =
    let has = c.requires.has.has in
    let ty : c.in-Some-Some.ty ≡ has.ty = (let e : Some c.in-Some-Some.ty ≡ Some has.ty = sym c.in-Some-Some.is-0 ∙ has.of in cc) in
    let named : c.get.result.now ≡ has.named = c.get.ensures
    ∙ (let e : Some c.in-Some-Some.member ≡ Some has.named = sym c.in-Some-Some.is-1 ∙ has.member in cc) in
    let found : Some (payload_told c.in-Some.found) ≡ Some has.payload =
    c.in-Some.ensures ∙ ap (λ d. payload_of d c.in-Some-Some.ty c.get.result.now.name) c.requires.body.table
    ∙ ap₂ (λ t (n : Member). payload_of (declarations_of c.args.body.now.m.now) t n.name) ty named ∙ has.found in
    let payload : payload_told c.in-Some.found ≡ has.payload = cc in
    choice_made c.args.body.now.m.now c.args.body.now.function.now c.args.inst.now c.requires.has c.in-Some.found.index
    c.first_result.result c.local_at.result c.local.result (ap (λ (p : Payload). p.place) payload)
    c.local_at.ensures c.first_result.ensures c.local.ensures
