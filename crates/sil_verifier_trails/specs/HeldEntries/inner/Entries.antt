-- What an item makes of the entries of a frame: operands end, and results begin.
use Rattle.std.specs.Prelude.{◌≡◌, ◌<◌, List, [], ◌∷◌, ◌++◌, true, false, length, Option, Ok}
use Rattle.std.specs.List.{list_any}
use Rattle.sil_verifier_trails.specs.AcceptedTrails.inner.Passing.{is_end}
use Rattle.sil_verifier_values.specs.holder_model.Data.{Datum}
use Rattle.sil_verifier_values.specs.holder_model.Frames.{Entry, Gone, Held, Lent, Plain, ends, entry_at, is_held, made_entry, results_put, without_ended}
use Rattle.sil_cfg_items.specs.declared.taken.Taken.{Taken}
use Rattle.sil_verifier_values.specs.ownership_kinds_chains.OwnershipChains.Facts.{has, known_or}
use Rattle.sil_verifier_values.specs.ownership_kinds_chains.declared.ownership_chains.facts.Facts.{Facts}
use Rattle.sil_ast.specs.declared.place.ValueId.{ValueId}

-- ---- ends

-- the entry of a value that ends
abbrev pub CanEnd : Entry → Type 0
CanEnd Gone = ⊥
CanEnd (Held x) = Unit {0}
CanEnd (Lent x) = Unit {0}
CanEnd (Plain x) = ⊥

module _ (facts : ValueId → Option Facts) where
  -- each operand that ends finds the entry of its value, which none before it ended
  abbrev pub MayEnd : List Taken → List Entry → Type 0
  MayEnd xs entries = (front rest : List Taken) (x : Taken) → xs ≡ front ++ x ∷ rest → ends facts x ≡ true
      → CanEnd (entry_at entries x.value) × (list_any (is_end facts x.value) front ≡ false)

  -- the entries behind: those of values that ended are gone, and all others stay
  pub record AreEnded (xs : List Taken) (entries left : List Entry) : Type 0 where
    pub size : length left ≡ length entries
    pub gone : (v : ValueId) → list_any (is_end facts v) xs ≡ true → entry_at left v ≡ Gone
    pub others : (v : ValueId) → list_any (is_end facts v) xs ≡ false → entry_at left v ≡ entry_at entries v

  pub record End (xs : List Taken) (entries : List Entry) : Type 0 where
    pub left : List Entry
    pub is_left : without_ended facts xs entries ≡ Ok left
    pub ended : AreEnded xs entries left

abbrev pub EndWhereTheyMay : Type 0
EndWhereTheyMay = (facts : ValueId → Option Facts) (xs : List Taken) (entries : List Entry) → MayEnd facts xs entries → End facts xs entries

-- ---- begins

-- the entries of values, one by one
abbrev pub HasEach : List Entry → List ValueId → List Entry → Type 0
HasEach behind [] [] = Unit {0}
HasEach behind [] (e ∷ es) = ⊥
HasEach behind (v ∷ vs) [] = ⊥
HasEach behind (v ∷ vs) (e ∷ es) = (entry_at behind v ≡ e) × HasEach behind vs es

module _ (facts : ValueId → Option Facts) where
  -- data make these entries, by the kinds of their values
  abbrev pub AreMade : List ValueId → List Datum → List Entry → Type 0
  AreMade [] [] [] = Unit {0}
  AreMade [] [] (e ∷ es) = ⊥
  AreMade [] (x ∷ xs) es = ⊥
  AreMade (v ∷ vs) [] es = ⊥
  AreMade (v ∷ vs) (x ∷ xs) [] = ⊥
  AreMade (v ∷ vs) (x ∷ xs) (e ∷ es) = (made_entry (known_or facts v).kind x ≡ Ok e) × AreMade vs xs es

  -- each is a value of the function, which isn't held, and none before it is the same
  abbrev pub MayBegin : List ValueId → List Entry → Type 0
  MayBegin vs entries = (front rest : List ValueId) (v : ValueId) → vs ≡ front ++ v ∷ rest
      → (is_held (entry_at entries v) ≡ false) × (has front v.0 ≡ false) × (v.0 < length entries)

  -- the entries behind: those of the values that begin are the ones that were made, and all others stay
  pub record Begin (vs : List ValueId) (xs : List Datum) (es entries : List Entry) : Type 0 where
    pub behind : List Entry
    pub is_behind : results_put facts vs xs entries ≡ Ok behind
    pub size : length behind ≡ length entries
    pub made : HasEach behind vs es
    pub others : (v : ValueId) → has vs v.0 ≡ false → entry_at behind v ≡ entry_at entries v

abbrev pub PutWhereTheyMay : Type 0
PutWhereTheyMay = (facts : ValueId → Option Facts) (vs : List ValueId) (xs : List Datum) (es entries : List Entry)
    → AreMade facts vs xs es → MayBegin facts vs entries → Begin facts vs xs es entries
