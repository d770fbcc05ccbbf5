use Rattle.std.proofs.Common.{◌≡◌, ◌+◌, ◌<◌, ◌≤◌, ◌^◌, length, cond, eqb, ap, sym, subst, ◌∙◌, arith, ℕ}
use Rattle.std.proofs.lemmas.List.{with_items_is}
use Rattle.number_tables.specs.TableByNumber.Numbers.{IsFree, Numbers, with_next}
use Rattle.number_tables.specs.TableByNumber.inner.Entries.{AreGiven, IsTable, key_at, numbers_in}
use Rattle.number_tables.proofs.TableByNumber.Views.{count_given, free_key, given_then, given_view}
use Rattle.number_tables.proofs.table_by_number.table.NumberTable.give.Goals as goal

pub overflow_add-self-inside : goal.overflow_add-self-inside
overflow_add-self-inside c =
    let few : length (numbers_in c.self.inside.mask c.self.inside.entries.items c.self.inside.given).places < 2 ^ 63 =
    subst (λ (t : Numbers). length t.places < 2 ^ 63) (sym c.self.view_is) c.requires.few in
    omega (arith, few, count_given c.self.inside.mask c.self.inside.entries.items c.self.inside.given)

pub insert-requires-clause-low : goal.insert-requires-clause-low
insert-requires-clause-low c =
    let few : length (numbers_in c.self.inside.mask c.self.inside.entries.items c.self.inside.given).places < 2 ^ 63 =
    subst (λ (t : Numbers). length t.places < 2 ^ 63) (sym c.self.view_is) c.requires.few in
    omega (arith, few, count_given c.self.inside.mask c.self.inside.entries.items c.self.inside.given)

pub insert-requires-clause-free : goal.insert-requires-clause-free
insert-requires-clause-free c =
    let free : IsFree (numbers_in c.self.inside.mask c.self.inside.entries.items c.self.inside.given) c.args.slot = subst (λ t. IsFree t c.args.slot) (sym c.self.view_is) c.requires.free in
    let same : c.args.slot + c.self.inside.mask + 2 ≡ c.self.inside.mask + 2 + c.args.slot = omega arith in
    rw (c.as_mut_slice.ensures.value, same) (free_key c.self.inside.mask c.self.inside.entries.items c.self.inside.given c.self.invariant.0 c.self.invariant.1 c.args.slot free)

pub overflow_add-self : goal.overflow_add-self
overflow_add-self c =
    let few : length (numbers_in c.self.inside.mask c.self.inside.entries.items c.self.inside.given).places < 2 ^ 63 =
    subst (λ (t : Numbers). length t.places < 2 ^ 63) (sym c.self.view_is) c.requires.few in
    omega (arith, few, count_given c.self.inside.mask c.self.inside.entries.items c.self.inside.given)

pub returns : goal.returns
returns c =
    let free : IsFree (numbers_in c.self.inside.mask c.self.inside.entries.items c.self.inside.given) c.args.slot = subst (λ t. IsFree t c.args.slot) (sym c.self.view_is) c.requires.free in
    let place : c.args.slot + c.self.inside.mask + 2 ≡ c.self.inside.mask + 2 + c.args.slot = omega arith in
    let kept : length c.insert.new.entries ≡ length c.self.inside.entries.items = c.insert.auto.entries ∙ ap (λ xs. length xs) c.as_mut_slice.ensures.value in
    let keys : (e : ℕ) → key_at c.insert.new.entries e ≡ cond (eqb e (c.self.inside.mask + 2 + c.args.slot)) (c.self.inside.given + 1) (key_at c.self.inside.entries.items e) =
    λ e. c.insert.ensures.keys e ∙ ap (λ s. cond (eqb e s) (c.self.inside.given + 1) (key_at c.as_mut_slice.result.now e)) place
    ∙ ap (λ xs. cond (eqb e (c.self.inside.mask + 2 + c.args.slot)) (c.self.inside.given + 1) (key_at xs e)) c.as_mut_slice.ensures.value in
    ap (λ xs. numbers_in c.self.inside.mask xs (c.self.inside.given + 1)) (with_items_is c.self.inside.entries c.insert.new.entries (omega arith))
    ∙ given_view c.self.inside.mask c.self.inside.entries.items c.self.inside.given c.self.invariant.0 c.self.invariant.1 c.args.slot free c.insert.new.entries c.insert.ensures.table kept keys
    ∙ ap (λ t. with_next t c.args.slot) c.self.view_is

pub invariant_of-self : goal.invariant_of-self
invariant_of-self c =
    let free : IsFree (numbers_in c.self.inside.mask c.self.inside.entries.items c.self.inside.given) c.args.slot = subst (λ t. IsFree t c.args.slot) (sym c.self.view_is) c.requires.free in
    let few : length (numbers_in c.self.inside.mask c.self.inside.entries.items c.self.inside.given).places < 2 ^ 63 =
    subst (λ (t : Numbers). length t.places < 2 ^ 63) (sym c.self.view_is) c.requires.few in
    let place : c.args.slot + c.self.inside.mask + 2 ≡ c.self.inside.mask + 2 + c.args.slot = omega arith in
    let kept : length c.insert.new.entries ≡ length c.self.inside.entries.items = c.insert.auto.entries ∙ ap (λ xs. length xs) c.as_mut_slice.ensures.value in
    let keys : (e : ℕ) → key_at c.insert.new.entries e ≡ cond (eqb e (c.self.inside.mask + 2 + c.args.slot)) (c.self.inside.given + 1) (key_at c.self.inside.entries.items e) =
    λ e. c.insert.ensures.keys e ∙ ap (λ s. cond (eqb e s) (c.self.inside.given + 1) (key_at c.as_mut_slice.result.now e)) place
    ∙ ap (λ xs. cond (eqb e (c.self.inside.mask + 2 + c.args.slot)) (c.self.inside.given + 1) (key_at xs e)) c.as_mut_slice.ensures.value in
    subst (λ xs. IsTable c.self.inside.mask xs × AreGiven c.self.inside.mask xs (c.self.inside.given + 1) × (c.self.inside.given + 1 ≤ 2 ^ 63)) (sym
    (with_items_is c.self.inside.entries c.insert.new.entries (omega arith))) (
      c.insert.ensures.table,
      given_then c.self.inside.mask c.self.inside.entries.items c.self.inside.given c.self.invariant.0 c.self.invariant.1 c.args.slot free c.insert.new.entries c.insert.ensures.table kept keys,
      omega (arith, few, count_given c.self.inside.mask c.self.inside.entries.items c.self.inside.given),
    )
