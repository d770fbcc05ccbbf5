use Rattle.std.proofs.Common.{◌≡◌, ◌+◌, ◌≤◌, ◌^◌, length, cond, eqb, is_some, true, ap, sym, subst, ◌∙◌, arith, ℕ}
use Rattle.std.proofs.lemmas.List.{with_items_is}
use Rattle.number_tables.specs.TableByNumber.Numbers.{slot_in, without}
use Rattle.number_tables.specs.TableByNumber.inner.Entries.{AreGiven, IsTable, key_at, numbers_in}
use Rattle.number_tables.proofs.TableByNumber.Views.{present, taken_then, taken_view}
use Rattle.number_tables.proofs.table_by_number.table.NumberTable.take_out.Goals as goal

pub overflow_add-number : goal.overflow_add-number
overflow_add-number c =
    let some : is_some (slot_in (numbers_in c.self.inside.mask c.self.inside.entries.items c.self.inside.given) c.args.number) ≡ true =
    subst (λ t. is_some (slot_in t c.args.number) ≡ true) (sym c.self.view_is) c.requires in
    omega (arith, (present c.self.inside.mask c.self.inside.entries.items c.self.inside.given c.args.number some).0)

pub find_present-entry-requires-clause-present : goal.find_present-entry-requires-clause-present
find_present-entry-requires-clause-present c =
    let some : is_some (slot_in (numbers_in c.self.inside.mask c.self.inside.entries.items c.self.inside.given) c.args.number) ≡ true =
    subst (λ t. is_some (slot_in t c.args.number) ≡ true) (sym c.self.view_is) c.requires in
    rw c.as_slice.ensures.value (present c.self.inside.mask c.self.inside.entries.items c.self.inside.given c.args.number some).1

pub invariant_of-self : goal.invariant_of-self
invariant_of-self c =
    let key : key_at c.self.inside.entries.items c.find_present-entry.result ≡ c.args.number + 1 = subst
    (λ xs. key_at xs c.find_present-entry.result ≡ c.args.number + 1) c.as_slice.ensures.value c.find_present-entry.ensures.key in
    let kept : length c.remove.new.entries ≡ length c.self.inside.entries.items = c.remove.auto.entries ∙ ap (λ xs. length xs) c.as_mut_slice.ensures.value in
    let keys : (e : ℕ) → key_at c.remove.new.entries e ≡ cond (eqb e c.find_present-entry.result) 0 (key_at c.self.inside.entries.items e) =
    λ e. c.remove.ensures.keys e ∙ ap (λ xs. cond (eqb e c.find_present-entry.result) 0 (key_at xs e)) c.as_mut_slice.ensures.value in
    subst (λ xs. IsTable c.self.inside.mask xs × AreGiven c.self.inside.mask xs c.self.inside.given × (c.self.inside.given ≤ 2 ^ 63)) (sym (with_items_is c.self.inside.entries c.remove.new.entries
    (omega arith))) (
      c.remove.ensures.table,
      taken_then c.self.inside.mask c.self.inside.entries.items c.self.inside.given c.self.invariant.0 c.self.invariant.1 c.args.number c.find_present-entry.result c.find_present-entry.ensures.slot
          key c.remove.new.entries c.remove.ensures.table kept keys,
      c.self.invariant.2,
    )

pub returns : goal.returns
returns c =
    let key : key_at c.self.inside.entries.items c.find_present-entry.result ≡ c.args.number + 1 = subst
    (λ xs. key_at xs c.find_present-entry.result ≡ c.args.number + 1) c.as_slice.ensures.value c.find_present-entry.ensures.key in
    let kept : length c.remove.new.entries ≡ length c.self.inside.entries.items = c.remove.auto.entries ∙ ap (λ xs. length xs) c.as_mut_slice.ensures.value in
    let keys : (e : ℕ) → key_at c.remove.new.entries e ≡ cond (eqb e c.find_present-entry.result) 0 (key_at c.self.inside.entries.items e) =
    λ e. c.remove.ensures.keys e ∙ ap (λ xs. cond (eqb e c.find_present-entry.result) 0 (key_at xs e)) c.as_mut_slice.ensures.value in
    ap (λ xs. numbers_in c.self.inside.mask xs c.self.inside.given) (with_items_is c.self.inside.entries c.remove.new.entries (omega arith))
    ∙ taken_view c.self.inside.mask c.self.inside.entries.items c.self.inside.given c.self.invariant.0 c.self.invariant.1 c.args.number c.find_present-entry.result c.find_present-entry.ensures.slot
    key c.remove.new.entries c.remove.ensures.table kept keys
    ∙ ap (λ t. without t c.args.number) c.self.view_is
