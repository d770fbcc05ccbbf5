-- What a table of facts has, and how it grows.
use Rattle.std.specs.Prelude.{◌≡◌, ℕ, ◌<◌, List, Bool, true, false, Option, Some, None, is_none, count_by}
use Rattle.sil_ast.specs.declared.place.ValueId.{ValueId}
use Rattle.ownership_kinds_chains.specs.declared.ownership_chains.definition.Definition.{Definition}
use Rattle.ownership_kinds_chains.specs.declared.ownership_chains.facts.Facts.{Facts}
use Rattle.ownership_kinds_chains.specs.OwnershipChains.Facts.{AreFactsOf, has, listed, told_at}
use Rattle.ownership_kinds_chains.specs.OwnershipChains.Steps.{told_from}

-- what the one knows, the other knows too
abbrev pub IsBelow : (ValueId → Option Facts) → (ValueId → Option Facts) → Type 0
IsBelow known more = (v : ValueId) (f : Facts) → known v ≡ Some f → more v ≡ Some f

-- all that is known is so
abbrev pub IsSound : List Definition → (ValueId → Option Facts) → Type 0
IsSound defs known = (v : ValueId) (f : Facts) → known v ≡ Some f → AreFactsOf defs v f

-- nothing can be found of the value now
abbrev pub IsStuck : List Definition → (ValueId → Option Facts) → ValueId → Type 0
IsStuck defs known v = known v ≡ None → told_from defs known v ≡ None

abbrev pub AreStuck : List Definition → (ValueId → Option Facts) → ℕ → Type 0
AreStuck defs known n = (v : ValueId) → v.0 < n → IsStuck defs known v

-- the values are below the count, in ascending order
abbrev pub IsListed : ℕ → List ValueId → Type 0
IsListed count values = values ≡ listed count (has values)

abbrev pub AreListed : ℕ → (ValueId → Option Facts) → Type 0
AreListed count known = (v : ValueId) (f : Facts) → known v ≡ Some f → IsListed count f.bases

abbrev pub unknown : List (Option Facts) → ℕ
unknown table = count_by is_none table

-- whether more is known than before, after a look at one value
abbrev pub Settles : List Definition → List (Option Facts) → List (Option Facts) → ValueId → Bool → Type 0
Settles defs old new v true = unknown new < unknown old
Settles defs old new v false = (new ≡ old) × IsStuck defs (told_at old) v

-- whether more is known than before, after a look at the values below n
abbrev pub Sweeps : List Definition → List (Option Facts) → List (Option Facts) → ℕ → Bool → Type 0
Sweeps defs old new n true = unknown new < unknown old
Sweeps defs old new n false = (new ≡ old) × AreStuck defs (told_at old) n
