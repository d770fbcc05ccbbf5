use Rattle.std.proofs.Common.{◌≡◌, ◌∷◌, [], Bool, false, take, sym, ap, ◌∙◌, arith}
use Rattle.std.specs.Prelude.{◌||◌}
use Rattle.std.proofs.lemmas.Grind.{take_at_read}
use Rattle.std.proofs.lemmas.List.{take_all}
use Rattle.std.proofs.lemmas.List.Folds.{list_any-append, list_any_at}
use Rattle.memory_rules_accesses.specs.declared.access.Access.{Access}
use Rattle.memory_rules_slots.specs.inner.Touched.{slot_in, is_in, has_slot}
use Rattle.memory_rules_slots.proofs.touched.has_slot.Goals as goal

neither : (a b : Bool) → a ≡ false → b ≡ false → (a || (b || false)) ≡ false
neither a b e k = ap (λ t. t || (b || false)) e ∙ ap (λ t. false || (t || false)) k

pub loop-access-preserved : goal.loop-access-preserved
loop-access-preserved c =
    let test : Access → Bool = λ x. is_in c.args.slot.0 (slot_in x) in
    ap (has_slot c.args.slot) (take_at_read c.args.accesses.now c.loop-access.access-index _ c.loop-access-test.true).1
    ∙ list_any-append test (take c.loop-access.access-index c.args.accesses.now) (_ ∷ [])
    ∙ neither _ _ c.loop-access.invariant (sym c.is_of.ensures ∙ c.if-is_of.false)

pub returns : goal.returns
returns c = sym (sym (ap (has_slot c.args.slot) (take_all c.loop-access.access-index c.args.accesses.now (omega arith))) ∙ c.loop-access.invariant)

pub returns-then-is_of : goal.returns-then-is_of
returns-then-is_of c = sym (list_any_at (λ x. is_in c.args.slot.0 (slot_in x)) c.args.accesses.now c.loop-access.access-index _ c.loop-access-test.true (sym c.is_of.ensures ∙ c.if-is_of.true))
