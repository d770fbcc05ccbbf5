use Rattle.std.proofs.Common.{◌≡◌, ℕ, ◌+◌, ◌*◌, length, ap, ◌∙◌}
use Rattle.number_tables.specs.TableByNumber.inner.Entries.{key_at}
use Rattle.number_tables.proofs.TableByNumber.Views.{wider_given, wider_view}
use Rattle.number_tables.proofs.table_by_number.table.NumberTable.widen.Goals as goal

pub invariant_of-self : goal.invariant_of-self
invariant_of-self c =
    let wider = c.in_ok-self-inside.field-0.items in
    let keys : (i : ℕ) → key_at wider (2 * c.self.inside.mask + 1 + 2 + i) ≡ key_at c.self.inside.entries.items (c.self.inside.mask + 2 + i) =
    λ i. c.in_ok-self-inside.ensures.keys i ∙ ap (λ xs. key_at xs (c.self.inside.mask + 2 + i)) c.deref.ensures.value in (
      c.in_ok-self-inside.ensures.table,
      wider_given c.self.inside.mask c.self.inside.entries.items c.self.invariant.0 (2 * c.self.inside.mask + 1) wider c.in_ok-self-inside.ensures.table c.self.inside.given keys c.self.invariant.1,
      c.self.invariant.2,
    )

pub returns : goal.returns
returns c =
    let wider = c.in_ok-self-inside.field-0.items in
    let keys : (i : ℕ) → key_at wider (2 * c.self.inside.mask + 1 + 2 + i) ≡ key_at c.self.inside.entries.items (c.self.inside.mask + 2 + i) =
    λ i. c.in_ok-self-inside.ensures.keys i ∙ ap (λ xs. key_at xs (c.self.inside.mask + 2 + i)) c.deref.ensures.value in
    wider_view c.self.inside.mask c.self.inside.entries.items c.self.invariant.0 (2 * c.self.inside.mask + 1) wider c.in_ok-self-inside.ensures.table c.self.inside.given keys
    (c.in_ok-self-inside.ensures.slots ∙ ap (λ xs. length xs + (2 * c.self.inside.mask + 1)) c.deref.ensures.value)
    ∙ c.self.view_is
