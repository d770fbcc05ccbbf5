use Rattle.std.proofs.Common.{◌≡◌, sym, ap, ◌∙◌, true, false}
use Rattle.sil_types_declarations.specs.TypeDefinitions.Rules.{exceeds_depth, exceeds_leaves}
use Rattle.sil_types.specs.inner.Limits.{any_past}
use Rattle.sil_types.specs.declared.limits.Limit.TheVariants.{Depth}
use Rattle.sil_types.proofs.FirstRefusals.{first_deep, first_wide}
use Rattle.sil_types.proofs.PastLimits.{second_of_one}
use Rattle.sil_types.proofs.build.refused_limit.Goals as goal

pub returns-then-any_past : goal.returns-then-any_past
returns-then-any_past c =
    let m = c.args.m.now in
    let deep : exceeds_depth m ≡ true = sym (c.any_past.ensures ∙ ap (λ d. any_past Depth d m) c.requires.table) ∙ c.if-any_past.true in
    first_deep m c.requires.items c.requires.finite deep

pub returns : goal.returns
returns c =
    let m = c.args.m.now in
    let flat : exceeds_depth m ≡ false = sym (c.any_past.ensures ∙ ap (λ d. any_past Depth d m) c.requires.table) ∙ c.if-any_past.false in
    first_wide m c.requires.items c.requires.finite flat (second_of_one (exceeds_depth m) (exceeds_leaves m) c.requires.past flat)
