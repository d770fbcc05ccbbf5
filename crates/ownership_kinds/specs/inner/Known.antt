-- What the rules on kinds are decided by.
use Rattle.std.specs.Prelude.{◌≡◌, ◌<◌, List, Option, Some, None, option_map, length, nat_lt, if◌then◌else◌}
use Rattle.sil_ast.specs.declared.function.Function.{Function}
use Rattle.sil_ast.specs.declared.place.ValueId.{ValueId}
use Rattle.numbered_form.specs.Numbering.{values_of}
use Rattle.ownership_kinds_chains.specs.OwnershipChains.Facts.{told_at}
use Rattle.ownership_kinds_chains.specs.declared.ownership_chains.facts.Facts.{Facts}
use Rattle.sil_types_declarations.specs.TypeDefinitions.Declarations.{Declarations}
use Rattle.sil_types_declarations.specs.declared.type_definitions.kind.Kind.{Kind}
use Rattle.ownership_kinds_origins.specs.inner.Tables.{AreSwitches}
use Rattle.ownership_kinds_origins.specs.Facts.{facts_in, kind_of_facts}
use Rattle.numbered_form.specs.ValueTables.Borrows.{borrows_of}
use Rattle.ownership_kinds.specs.Statics.{IsOnRing}
use Rattle.ownership_kinds.specs.declared.check.KindCheck.{KindCheck}

-- the kind that a table tells
abbrev pub kind_told : List (Option Facts) → ValueId → Option Kind
kind_told table v = option_map kind_of_facts (told_at table v)

-- the value is on a ring of one of the two kinds, and none before it is
pub record IsFirstOnRing (d : Declarations) (f : Function) (v : ValueId) : Type 0 where
  pub inside : v.0 < length (values_of f.blocks)
  pub on_ring : IsOnRing d f v
  pub first : (w : ValueId) → w.0 < v.0 → IsOnRing d f w → ⊥

-- this is the first value on a ring, if there is one
abbrev pub IsRingOf : Declarations → Function → Option ValueId → Type 0
IsRingOf d f None = (v : ValueId) → IsOnRing d f v → ⊥
IsRingOf d f (Some v) = IsFirstOnRing d f v

-- of two values the one with the lesser number
abbrev pub first_of : Option ValueId → Option ValueId → Option ValueId
first_of None other = other
first_of (Some a) None = Some a
first_of (Some a) (Some b) = if nat_lt b.0 a.0 then Some b else Some a

-- all is known as it is in the function
pub record IsKnown (d : Declarations) (f : Function) (k : KindCheck) : Type 0 where
  pub facts : (v : ValueId) → told_at k.facts.now v ≡ facts_in d f v
  pub borrows : k.borrows.now ≡ borrows_of f
  pub switches : AreSwitches f k.switches.now
  pub ring : IsRingOf d f k.ring
