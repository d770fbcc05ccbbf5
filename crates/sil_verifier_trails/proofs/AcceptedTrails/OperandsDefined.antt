-- What the next item takes is defined, since its operands find the switches of their values on.
use Rattle.std.proofs.Common.{◌≡◌, List, [], ◌∷◌, ◌++◌, length, map, refl, sym, ap, ◌∙◌, Bool, true, false, cond, ◌||◌, Option, Some, None}
use Rattle.std.specs.Prelude.{◌==◌, filter_map, option_and_then}
use Rattle.std.specs.List.{cons_option, list_any}
use Rattle.std.proofs.lemmas.Bool.{false≢true, or_cases}
use Rattle.std.proofs.lemmas.List.Folds.{list_any-append}
use Rattle.std.proofs.lemmas.Option.{none-some, same_Some}
use Rattle.instruction_table.specs.Forms.{roles_of}
use Rattle.sil_cfg_items.specs.Items.{arg_value, taken_along_in, taken_in}
use Rattle.sil_cfg_items.specs.Parts.{handover_in, item_arguments, item_edge, item_handover, item_inst, item_operands, item_results, operands_in}
use Rattle.sil_cfg_items.specs.Roles.{consumed, conventions_in, roles_for, taken_each}
use Rattle.sil_cfg_items.specs.declared.taken.Taken.{Taken}
use Rattle.sil_cfg_items.specs.declared.taken.Treatment.{Treatment}
use Rattle.numbered_form.specs.Lists.{Each}
use Rattle.sil_verifier_values.specs.ownership_kinds_chains.OwnershipChains.Facts.{has}
use Rattle.sil_verifier_values.specs.reach_engine_marks.PathChecks.Entries.{marks_for, means}
use Rattle.sil_verifier_values.specs.reach_engine_marks.PathPatterns.Marks.{needs_on, turns_on}
use Rattle.sil_ast.specs.declared.function.BlockArg.{BlockArg}
use Rattle.sil_ast.specs.declared.function.Function.{Function}
use Rattle.sil_ast.specs.declared.inst.Edge.{Edge}
use Rattle.sil_ast.specs.declared.inst.Inst.{Inst}
use Rattle.sil_ast.specs.declared.operands.Operand.{Operand}
use Rattle.sil_ast.specs.declared.place.ValueId.{ValueId}
use Rattle.sil_cfg.specs.declared.item.Item.{Item}
use Rattle.sil_rules.specs.declared.rule.Rule.TheVariants as rule
use Rattle.sil_verifier_values.specs.value_availability.Accesses.{accesses_of, begun, defined, used}
use Rattle.sil_verifier_trails.specs.RunTrails.inner.RunTrails.{IsTurnedTrail}
use Rattle.sil_verifier_trails.specs.RunTrails.inner.Switched.{IsFollowed, switched, switched_over}
use Rattle.sil_verifier_trails.proofs.RunTrails.SwitchedTrails.{followed_turned}
use Rattle.sil_verifier_trails.proofs.RunTrails.TurnedTrails.{turned_older}
use Rattle.sil_verifier_trails.specs.AcceptedTrails.inner.Defined.{AreOperandsDefined, IsDefinedOn, IsTakenFrom, makes}
use Rattle.sil_verifier_trails.proofs.AcceptedTrails.Quiet.{entries_split}
use Rattle.sil_verifier_trails.proofs.AcceptedTrails.Tests.{each_among, each_of_both, either, or_more}
use Rattle.sil_verifier_trails.proofs.AcceptedTrails.Unbroken.{values_unbroken}

-- an operand of the value, or of another one
use_bits : (own on c : Bool) → switched_over (cons_option (cond own (Some (needs_on rule.Undefined)) None) []) on ≡ Some c → (c ≡ on) × (own ≡ true → on ≡ true)
use_bits true true c h = (sym (same_Some true c h), λ e. refl)
use_bits true false c h = absurd (none-some c h)
use_bits false true c h = (sym (same_Some true c h), λ e. refl)
use_bits false false c h = (sym (same_Some false c h), λ e. e)

define_bits : (own on c : Bool) → switched_over (cons_option (cond own (Some (turns_on rule.Undefined)) None) []) on ≡ Some c → c ≡ (own || on)
define_bits true on c h = sym (same_Some true c h)
define_bits false on c h = sym (same_Some on c h)

abbrev is_of : ValueId → Operand → Bool
is_of v o = o.value.0 == v.0

module _ (v : ValueId) where
  uses_read : (os : List Operand) (on c : Bool) → switched_over (filter_map (means v.0) (map used os)) on ≡ Some c → (c ≡ on) × (list_any (is_of v) os ≡ true → on ≡ true)
  uses_read [] on c h = (sym (same_Some on c h), λ e. absurd (false≢true e))
  uses_read (o ∷ os) on c h =
      let s = entries_split v.0 (used o ∷ []) (map used os) on c h in
      let one = use_bits (o.value.0 == v.0) on s.0 s.1 in
      let more = uses_read os s.0 c s.2 in
      (more.0 ∙ one.0, λ e. either one.1 (λ m. sym one.0 ∙ more.1 m) (or_cases (is_of v o) (list_any (is_of v) os) e))

  defines_read : (vs : List ValueId) (on c : Bool) → switched_over (filter_map (means v.0) (map defined vs)) on ≡ Some c → c ≡ (has vs v.0 || on)
  defines_read [] on c h = sym (same_Some on c h)
  defines_read (w ∷ vs) on c h =
      let s = entries_split v.0 (defined w ∷ []) (map defined vs) on c h in
      defines_read vs s.0 c s.2 ∙ ap (λ b. has vs v.0 || b) (define_bits (w.0 == v.0) on s.0 s.1) ∙ or_more (w.0 == v.0) (has vs v.0) on

  begins_read : (args : List BlockArg) (on c : Bool) → switched_over (filter_map (means v.0) (map begun args)) on ≡ Some c → c ≡ (has (map arg_value args) v.0 || on)
  begins_read [] on c h = sym (same_Some on c h)
  begins_read (a ∷ args) on c h =
      let s = entries_split v.0 (begun a ∷ []) (map begun args) on c h in
      begins_read args s.0 c s.2 ∙ ap (λ b. has (map arg_value args) v.0 || b) (define_bits (a.value.0 == v.0) on s.0 s.1)
      ∙ or_more (a.value.0 == v.0) (has (map arg_value args) v.0) on

  module _ (f : Function) where
    -- an item finds its operands on, and leaves on what was on and what it makes
    item_read : (i : Item) (on c : Bool) → switched_over (marks_for v.0 (accesses_of f) i) on ≡ Some c →
        (c ≡ (makes f v i || on)) × (list_any (is_of v) (item_operands f i) ≡ true → on ≡ true) × (list_any (is_of v) (item_handover f i) ≡ true → on ≡ true)
    item_read i on c h =
        let operands = map used (item_operands f i) in
        let handed = map used (item_handover f i) in
        let results = map defined (item_results f i) in
        let a = entries_split v.0 (operands ++ handed ++ results) (map begun (item_arguments f i)) on c h in
        let b = entries_split v.0 (operands ++ handed) results on a.0 a.1 in
        let o = entries_split v.0 operands handed on b.0 b.1 in
        let first = uses_read (item_operands f i) on o.0 o.1 in
        let second = uses_read (item_handover f i) o.0 b.0 o.2 in
        let made : a.0 ≡ (has (item_results f i) v.0 || on) = defines_read (item_results f i) b.0 a.0 b.2 ∙ ap (λ b. has (item_results f i) v.0 || b) (second.0 ∙ first.0) in
        let args : List ValueId = map arg_value (item_arguments f i) in
        let all : has (item_results f i ++ args) v.0 ≡ (has (item_results f i) v.0 || has args v.0) = list_any-append (λ (x : ValueId). x.0 == v.0) (item_results f i) args in (
          begins_read (item_arguments f i) a.0 c a.2 ∙ ap (λ b. has args v.0 || b) made ∙ or_more (has (item_results f i) v.0) (has args v.0) on ∙ ap (λ b. b || on) (sym all),
          first.1,
          λ e. sym first.0 ∙ second.1 e,
        )

    module _ (follows : (t : List Item) → IsTurnedTrail f t → IsFollowed (marks_for v.0 (accesses_of f)) t) where
      step_of : (t : List Item) (i : Item) (on c : Bool) → switched (marks_for v.0 (accesses_of f)) t ≡ Some on → switched (marks_for v.0 (accesses_of f)) (i ∷ t) ≡ Some c →
          switched_over (marks_for v.0 (accesses_of f) i) on ≡ Some c
      step_of t i on c was is = ap (option_and_then (switched_over (marks_for v.0 (accesses_of f) i))) (sym was) ∙ is

      -- the value's switch is on just where an item made it
      on_where_made : (t : List Item) → IsTurnedTrail f t → switched (marks_for v.0 (accesses_of f)) t ≡ Some (list_any (makes f v) t)
      on_where_made [] h = refl
      on_where_made (i ∷ t) h =
          let is = follows (i ∷ t) h in
          let was = on_where_made t (turned_older f i t h) in
          is.1 ∙ ap Some (item_read i (list_any (makes f v) t) is.0 (step_of t i (list_any (makes f v) t) is.0 was is.1)).0

      next_defined : (t : List Item) (i : Item) → IsTurnedTrail f (i ∷ t) → (list_any (is_of v) (item_operands f i) ≡ true → IsDefinedOn f t v)
          × (list_any (is_of v) (item_handover f i) ≡ true → IsDefinedOn f t v)
      next_defined t i h =
          let is = follows (i ∷ t) h in
          let was = on_where_made t (turned_older f i t h) in
          let r = item_read i (list_any (makes f v) t) is.0 (step_of t i (list_any (makes f v) t) is.0 was is.1) in
          (r.1, r.2)

taken_of : (P : ValueId → Type 0) (os : List Operand) (ts : List Treatment) → Each (λ o. P o.value) os → Each (λ (x : Taken). P x.value) (taken_each os ts)
taken_of P [] ts h = tt
taken_of P (o ∷ os) [] h = tt
taken_of P (o ∷ os) (t ∷ ts) h = (h.0, taken_of P os ts h.1)

taken_inst : (P : ValueId → Type 0) (o : Option Inst) → Each (λ o. P o.value) (operands_in o) → Each (λ (x : Taken). P x.value) (taken_in o)
taken_inst P None h = tt
taken_inst P (Some i) h = taken_of P i.operands (roles_for (roles_of i.op) (conventions_in i) (length i.operands)) h

taken_handed : (P : ValueId → Type 0) (os : List Operand) → Each (λ o. P o.value) os → Each (λ (x : Taken). P x.value) (map consumed os)
taken_handed P [] h = tt
taken_handed P (o ∷ os) h = (h.0, taken_handed P os h.1)

taken_edge : (P : ValueId → Type 0) (o : Option Edge) → Each (λ o. P o.value) (handover_in o) → Each (λ (x : Taken). P x.value) (taken_along_in o)
taken_edge P None h = tt
taken_edge P (Some e) h = taken_handed P e.args h

pub operands_defined : AreOperandsDefined
operands_defined d f accepted t i h =
    let next = λ (v : ValueId). next_defined v f (followed_turned f (marks_for v.0 (accesses_of f)) (values_unbroken d f accepted.clean v)) t i h in
    let operands = each_among (λ (o : Operand). o.value) (λ o. IsDefinedOn f t o.value) (item_operands f i) (λ o among. (next o.value).0 among) in
    let handed = each_among (λ (o : Operand). o.value) (λ o. IsDefinedOn f t o.value) (item_handover f i) (λ o among. (next o.value).1 among) in
    each_of_both (IsTakenFrom f t) (taken_in (item_inst f i)) (taken_along_in (item_edge f i))
    (taken_inst (IsDefinedOn f t) (item_inst f i) operands) (taken_edge (IsDefinedOn f t) (item_edge f i) handed)
