use Rattle.std.proofs.Common.{◌≡◌, ℕ, ◌+◌, ◌≤◌, length, cond, eqb, refl, sym, Vec, Global, ap, ◌∙◌, subst, arith}
use Rattle.std.proofs.lemmas.List.{with_items_is}
use Rattle.number_tables.specs.declared.table_by_number.entry.Entry.{Entry}
use Rattle.number_tables.specs.TableByNumber.inner.Entries.{key_at}
use Rattle.number_tables.proofs.TableByNumber.Widening.{IsCopied, copied_free, copied_next, key_absent}
use Rattle.number_tables.proofs.table_by_number.widen.widened.Goals as goal
use Rattle.number_tables.proofs.table_by_number.widen.widened.Goals.{then-key-ne0, else-key-ne0}

pub insert-requires-clause-absent : goal.insert-requires-clause-absent
insert-requires-clause-absent c =
    let some : 1 ≤ key_at c.args.entries.now (c.args.mask + 2 + c.slots.s) = omega arith in
    rw c.deref_mut.ensures.value (key_absent c.args.mask c.args.entries.now c.requires.table c.args.wide c.slots.wider.items c.slots.s c.slots.invariant (key_at c.args.entries.now
    (c.args.mask + 2 + c.slots.s)) refl some)

pub slots-preserved : goal.slots-preserved
slots-preserved c = elim c.if-key-ne0.branch [
  | then-key-ne0 w ↦
      let kept : length w.insert.new.entries ≡ length c.slots.wider.items = w.insert.auto.entries ∙ ap (λ xs. length xs) w.deref_mut.ensures.value in
      let keys : (e : ℕ) → key_at w.insert.new.entries e ≡ cond (eqb e (c.args.wide + 2 + c.slots.s)) (key_at c.args.entries.now (c.args.mask + 2 + c.slots.s)) (key_at c.slots.wider.items e) =
      λ e. w.insert.ensures.keys e
      ∙ ap (λ xs. cond (eqb e (c.args.wide + 2 + c.slots.s)) (key_at c.args.entries.now (c.args.mask + 2 + c.slots.s)) (key_at xs e)) w.deref_mut.ensures.value in
      subst (λ xs. IsCopied c.args.mask c.args.entries.now c.args.wide xs (c.slots.s + 1)) (sym (ap (λ (v : Vec Entry Global). v.items) w.wider-is
      ∙ with_items_is c.slots.wider w.insert.new.entries (omega arith)))
      (copied_next c.args.mask c.args.entries.now c.requires.table c.args.wide c.slots.wider.items c.slots.s c.slots.invariant w.insert.new.entries w.insert.ensures.table kept keys)
  | else-key-ne0 w ↦
      subst (λ xs. IsCopied c.args.mask c.args.entries.now c.args.wide xs (c.slots.s + 1)) (sym (ap (λ (v : Vec Entry Global). v.items) w.wider-is))
      (copied_free c.args.mask c.args.entries.now c.requires.table c.args.wide c.slots.wider.items c.slots.s c.slots.invariant w.if-key-ne0.false)
]
