use Rattle.std.proofs.Common.{◌≡◌, ◌+◌, ◌-◌, ◌≤◌, Some, ap, sym, ◌∙◌, arith}
use Rattle.number_tables.specs.TableByNumber.Numbers.{Numbers, slot_in}
use Rattle.number_tables.specs.TableByNumber.inner.Chains.{IsAbsent}
use Rattle.number_tables.specs.TableByNumber.inner.Entries.{key_at}
use Rattle.number_tables.proofs.TableByNumber.Views.{slot_absent, slot_found, slot_past}
use Rattle.number_tables.proofs.table_by_number.table.NumberTable.find.Goals as goal

pub returns-then-number-self : goal.returns-then-number-self
returns-then-number-self c =
    sym (slot_past c.self.inside.mask c.self.inside.entries.items c.self.inside.given c.args.number c.if-number-self.true)
    ∙ ap (λ (t : Numbers). slot_in t c.args.number) c.self.view_is

pub returns-then-entry-eq0 : goal.returns-then-entry-eq0
returns-then-entry-eq0 c =
    let absent : IsAbsent c.self.inside.mask (key_at c.self.inside.entries.items) (c.args.number + 1) = rw (← c.as_slice.ensures.value) (c.find-entry.ensures.absent c.if-entry-eq0.true) in
    sym (slot_absent c.self.inside.mask c.self.inside.entries.items c.self.inside.given c.self.invariant.0 c.args.number absent)
    ∙ ap (λ (t : Numbers). slot_in t c.args.number) c.self.view_is

pub returns : goal.returns
returns c =
    let found = c.find-entry.ensures.found (let some : 1 ≤ c.find-entry.result = omega arith in some) in
    let key : key_at c.self.inside.entries.items c.find-entry.result ≡ c.args.number + 1 = rw (← c.as_slice.ensures.value) found.1 in
    let same : c.find-entry.result - c.self.inside.mask - 2 ≡ c.find-entry.result - (c.self.inside.mask + 2) = omega arith in
    ap Some same
    ∙ sym (slot_found c.self.inside.mask c.self.inside.entries.items c.self.inside.given c.self.invariant.0 c.args.number c.find-entry.result c.if-number-self.false found.0 key)
    ∙ ap (λ (t : Numbers). slot_in t c.args.number) c.self.view_is
