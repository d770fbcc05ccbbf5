use Rattle.std.proofs.Common.{sym, ap, ◌∙◌, map}
use Rattle.std.specs.List.{flat_map, list_any}
use Rattle.std.specs.Prelude.{◌||◌, is_some}
use Rattle.sil_types.specs.inner.Limits.{exceeds}
use Rattle.sil_types.specs.declared.limits.Limit.TheVariants.{Either}
use Rattle.sil_types_declarations.specs.TypeDefinitions.Declarations.{declarations_of}
use Rattle.sil_types_declarations.specs.TypeDefinitions.Mentions.{decl, function_members, mentions_of, vtable}
use Rattle.sil_types_declarations.specs.TypeDefinitions.Rules.{is_no_member, is_of_unknown_class, is_too_low}
use Rattle.sil_types_items.specs.TypeItemRules.Faults.{fault_from, is_wrong_type}
use Rattle.sil_types_items.proofs.TypeItemRules.NoFaults.{none_broken}
use Rattle.sil_types.proofs.PastLimits.{no_wrong_type, none_past_limit}
use Rattle.sil_types.proofs.wrong.any_wrong.Goals as goal

pub returns-clause-items : goal.returns-clause-items
returns-clause-items c = λ no_vtable.
    let m = c.args.m.now in
    let own = c.declarations-declarations.ensures ∙ c.requires in
    none_broken (declarations_of m) m
    (no_wrong_type m (sym (c.any_wrong_type.ensures ∙ ap (λ d. list_any (λ t. is_wrong_type d t || exceeds Either d t) (mentions_of m)) c.requires) ∙ c.if-any_wrong_type.false))
    (sym (c.any_unknown_superclass.ensures
    ∙ ap (λ d. list_any (is_of_unknown_class d) (map decl c.as_slice-2.result.now)) own
    ∙ ap (λ ds. list_any (is_of_unknown_class (declarations_of m)) (map decl ds)) c.as_slice-2.ensures)
    ∙ c.if-any_unknown_superclass.false)
    (sym (c.any_bad_member.ensures
    ∙ ap (λ d. list_any (is_no_member d) (flat_map function_members c.as_slice-3.result.now)) own
    ∙ ap (λ fs. list_any (is_no_member (declarations_of m)) (flat_map function_members fs)) c.as_slice-3.ensures)
    ∙ c.if-any_bad_member.false)
    (sym (c.any_wrong_vtable.ensures
    ∙ ap (λ d. is_some (fault_from d 0 (map vtable c.as_slice-4.result.now))) own
    ∙ ap (λ vs. is_some (fault_from (declarations_of m) 0 (map vtable vs))) c.as_slice-4.ensures)
    ∙ no_vtable)

pub returns-clause-limits : goal.returns-clause-limits
returns-clause-limits c = λ no_vtable.
    let m = c.args.m.now in
    none_past_limit m (sym (c.any_wrong_type.ensures ∙ ap (λ d. list_any (λ t. is_wrong_type d t || exceeds Either d t) (mentions_of m)) c.requires) ∙ c.if-any_wrong_type.false)
    (sym (c.any_too_low.ensures
    ∙ ap (λ d. list_any (is_too_low d) c.as_slice.result.now) (c.declarations.ensures ∙ c.requires)
    ∙ ap (list_any (is_too_low (declarations_of m))) c.as_slice.ensures)
    ∙ c.if-any_too_low.false)
