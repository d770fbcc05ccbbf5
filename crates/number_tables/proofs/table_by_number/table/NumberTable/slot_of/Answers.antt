use Rattle.std.proofs.Common.{◌≡◌, ◌+◌, ◌-◌, Some, is_some, true, ap, sym, subst, ◌∙◌, arith}
use Rattle.number_tables.specs.TableByNumber.Numbers.{AreApart, Numbers, slot_in}
use Rattle.number_tables.specs.TableByNumber.inner.Entries.{key_at, numbers_in}
use Rattle.number_tables.proofs.TableByNumber.Views.{apart, present, slot_found}
use Rattle.number_tables.proofs.table_by_number.table.NumberTable.slot_of.Goals as goal

pub overflow_add-number : goal.overflow_add-number
overflow_add-number c =
    let some : is_some (slot_in (numbers_in c.self.inside.mask c.self.inside.entries.items c.self.inside.given) c.args.number) ≡ true =
    subst (λ t. is_some (slot_in t c.args.number) ≡ true) (sym c.self.view_is) c.requires in
    omega (arith, c.self.invariant.2, (present c.self.inside.mask c.self.inside.entries.items c.self.inside.given c.args.number some).0)

pub find_present-entry-requires-clause-present : goal.find_present-entry-requires-clause-present
find_present-entry-requires-clause-present c =
    let some : is_some (slot_in (numbers_in c.self.inside.mask c.self.inside.entries.items c.self.inside.given) c.args.number) ≡ true =
    subst (λ t. is_some (slot_in t c.args.number) ≡ true) (sym c.self.view_is) c.requires in
    rw c.as_slice.ensures.value (present c.self.inside.mask c.self.inside.entries.items c.self.inside.given c.args.number some).1

pub returns-clause-slot : goal.returns-clause-slot
returns-clause-slot c =
    let some : is_some (slot_in (numbers_in c.self.inside.mask c.self.inside.entries.items c.self.inside.given) c.args.number) ≡ true =
    subst (λ t. is_some (slot_in t c.args.number) ≡ true) (sym c.self.view_is) c.requires in
    let lt = (present c.self.inside.mask c.self.inside.entries.items c.self.inside.given c.args.number some).0 in
    let key : key_at c.self.inside.entries.items c.find_present-entry.result ≡ c.args.number + 1 = rw (← c.as_slice.ensures.value) c.find_present-entry.ensures.key in
    let same : c.find_present-entry.result - c.self.inside.mask - 2 ≡ c.find_present-entry.result - (c.self.inside.mask + 2) = omega arith in
    sym (ap (λ (t : Numbers). slot_in t c.args.number) c.self.view_is)
    ∙ slot_found c.self.inside.mask c.self.inside.entries.items c.self.inside.given c.self.invariant.0 c.args.number c.find_present-entry.result lt c.find_present-entry.ensures.slot key
    ∙ ap Some (sym same)

pub returns-clause-apart : goal.returns-clause-apart
returns-clause-apart c = subst AreApart c.self.view_is (apart c.self.inside.mask c.self.inside.entries.items c.self.inside.given)
