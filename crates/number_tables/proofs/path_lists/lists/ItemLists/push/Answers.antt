use Rattle.std.proofs.Common.{◌≡◌, ◌+◌, ◌∷◌, [], ◌++◌, ap, ap₂, ◌∙◌, length, subst, arith, length-append}
use Rattle.number_tables.specs.PathLists.inner.Lists.{AreEnds, lists_of}
use Rattle.number_tables.proofs.PathLists.Ends.{ends_pushed, lists_pushed}
use Rattle.number_tables.proofs.path_lists.lists.ItemLists.push.Goals as goal

pub invariant_of-self-in-Ok : goal.invariant_of-self-in-Ok
invariant_of-self-in-Ok g c =
    let size = length-append c.self.inside.elements.items c.args.list.now in
    let added = ap length c.in_ok-append.ensures.ok in
    let whole : c.len.result ≡ length c.append.new.elements.items = omega arith in
    rw c.in-Ok.ensures.items (subst (AreEnds 0 (c.self.inside.ends.items ++ c.len.result ∷ [])) whole
    (ends_pushed 0 c.self.inside.ends.items (length c.self.inside.elements.items) c.len.result c.self.invariant (omega (arith, size, added))))

pub returns-in-Ok-clause-ok : goal.returns-in-Ok-clause-ok
returns-in-Ok-clause-ok g c =
    let size = length-append c.self.inside.elements.items c.args.list.now in
    let added = ap length c.in_ok-append.ensures.ok in
    let whole : c.len.result ≡ length c.self.inside.elements.items + length c.args.list.now = omega (arith, size, added) in
    ap₂ lists_of c.in_ok-append.ensures.ok c.in-Ok.ensures.items
    ∙ lists_pushed 0 c.self.inside.elements.items c.args.list.now c.self.inside.ends.items c.len.result c.self.invariant whole
    ∙ ap (λ v. v ++ c.args.list.now ∷ []) c.self.view_is
