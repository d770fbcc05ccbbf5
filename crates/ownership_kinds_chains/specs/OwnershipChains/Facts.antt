-- The kind and the bases of a value, by its origin and the facts of its operands.
use Rattle.std.specs.Prelude.{ℕ, List, [], ◌∷◌, map, length, take, Bool, true, false, cond}
use Rattle.std.specs.Prelude.{not, ◌||◌, ◌==◌, Contains, Option, None, is_some, unwrap_or, slice_get, filter}
use Rattle.std.specs.List.{list_any, range_with_len}
use Rattle.sil_ast.specs.declared.place.ValueId.{ValueId}
use Rattle.sil_types_declarations.specs.declared.type_definitions.kind.Kind.{Kind}
use Rattle.sil_types_declarations.specs.declared.type_definitions.kind.Kind.TheVariants as kind
use Rattle.ownership_kinds_chains.specs.declared.ownership_chains.definition.Definition.{Definition}
use Rattle.ownership_kinds_chains.specs.declared.ownership_chains.definition.Origin.{Origin}
use Rattle.ownership_kinds_chains.specs.declared.ownership_chains.definition.Origin.TheVariants.{Owned, Lender, Plain, Forward, Same, Lent, Address}
use Rattle.ownership_kinds_chains.specs.declared.ownership_chains.facts.Facts.{Facts}
use Rattle.ownership_kinds_chains.specs.OwnershipChains.Chains.{operands_at}

abbrev pub origin_at : List Definition → ValueId → Origin
origin_at defs v = unwrap_or (slice_get (map (λ d. d.origin) defs) v.0) Plain

abbrev pub is_owned : Kind → Bool
is_owned kind.Owned = true
is_owned kind.Guaranteed = false
is_owned kind.Plain = false

abbrev pub is_guaranteed : Kind → Bool
is_guaranteed kind.Owned = false
is_guaranteed kind.Guaranteed = true
is_guaranteed kind.Plain = false

abbrev pub facts_with : Kind → List ValueId → Facts
facts_with k bases = record { kind = k; bases = bases }

-- Owned where an operand is Owned, else Guaranteed where one is Guaranteed, else Plain; `at` gives the operands' facts
abbrev pub forwarded : (ValueId → Facts) → List ValueId → Kind
forwarded at ops = cond (list_any (λ w. is_owned (at w).kind) ops) kind.Owned (cond (list_any (λ w. is_guaranteed (at w).kind) ops) kind.Guaranteed kind.Plain)

-- whether the number is that of one of the values
abbrev pub has : List ValueId → ℕ → Bool
has values b = list_any (λ x. x.0 == b) values

abbrev pub value_of : ℕ → ValueId
value_of n = record { 0 = n }

-- the values below a count whose numbers pass the test, in ascending order
abbrev pub listed : ℕ → (ℕ → Bool) → List ValueId
listed count test = map value_of (filter test (range_with_len 0 count))

-- the bases that an operand hands on: of a Guaranteed one alone, or whatever its kind is
abbrev pub handed_on : Bool → Facts → List ValueId
handed_on only_guaranteed f = cond (not only_guaranteed || is_guaranteed f.kind) f.bases []

-- the bases that the operands hand on, together
abbrev pub bases_together : ℕ → Bool → (ValueId → Facts) → List ValueId → List ValueId
bases_together count only_guaranteed at ops = listed count (λ b. list_any (λ w. has (handed_on only_guaranteed (at w)) b) ops)

abbrev pub by_kind : ℕ → ValueId → (ValueId → Facts) → List ValueId → Kind → Facts
by_kind count v at ops kind.Owned = facts_with kind.Owned (v ∷ [])
by_kind count v at ops kind.Guaranteed = facts_with kind.Guaranteed (bases_together count true at ops)
by_kind count v at ops kind.Plain = facts_with kind.Plain []

abbrev pub by_operands : ℕ → ValueId → (ValueId → Facts) → List ValueId → Facts
by_operands count v at ops = by_kind count v at ops (forwarded at ops)

abbrev pub told_by : ℕ → ValueId → (ValueId → Facts) → List ValueId → Origin → Facts
told_by count v at ops Owned = facts_with kind.Owned (v ∷ [])
told_by count v at ops Lender = facts_with kind.Guaranteed (v ∷ [])
told_by count v at ops Plain = facts_with kind.Plain []
told_by count v at ops Forward = by_operands count v at ops
told_by count v at ops Same = by_operands count v at (take 1 ops)
told_by count v at ops Lent = facts_with kind.Guaranteed (bases_together count true at ops)
told_by count v at ops Address = facts_with kind.Plain (bases_together count false at ops)

abbrev pub is_known : (ValueId → Option Facts) → ValueId → Bool
is_known known w = is_some (known w)

abbrev pub known_or : (ValueId → Option Facts) → ValueId → Facts
known_or known w = unwrap_or (known w) (facts_with kind.Plain [])

-- these are the kind and the bases of the value: each of its operands has facts, and by these its own are told
pub data AreFactsOf (defs : List Definition) : ValueId → Facts → Type 0 where
  told : (v : ValueId) (at : ValueId → Facts) → ((w : ValueId) → Contains (operands_at defs v) w → AreFactsOf defs w (at w))
      → AreFactsOf defs v (told_by (length defs) v at (operands_at defs v) (origin_at defs v))

-- what a table tells
abbrev pub told_at : List (Option Facts) → ValueId → Option Facts
told_at table v = unwrap_or (slice_get table v.0) None
