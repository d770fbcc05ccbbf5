-- Entries of a frame in which one value that is held is lent, and frames of two runs that are alike but for that.
use Rattle.std.specs.Prelude.{◌≡◌, ◌⊎◌, ◌==◌, ℕ, List, Bool, true, cond}
use Rattle.std.specs.List.{list_any}
use Rattle.sil_cfg_items.specs.Items.{item_defined}
use Rattle.ownership_kinds_chains.specs.OwnershipChains.Facts.{has}
use Rattle.sil_ast.specs.declared.function.Function.{Function}
use Rattle.sil_ast.specs.declared.place.FuncId.{FuncId}
use Rattle.sil_ast.specs.declared.place.ValueId.{ValueId}
use Rattle.sil_cfg.specs.declared.item.Item.{Item}
use Rattle.copy_pairing_acceptance.specs.copy_pairing_model.Rewritten.{changed_at}
use Rattle.holder_model_laws.specs.holder_model.Data.{Datum}
use Rattle.holder_model_laws.specs.holder_model.Frames.{Entry, Gone, Held, Lent, Plain, entry_at}

-- what is held is lent
abbrev pub lent_entry : Entry → Entry
lent_entry Gone = Gone
lent_entry (Held x) = Lent x
lent_entry (Lent x) = Lent x
lent_entry (Plain x) = Plain x

abbrev pub lent_entries : ValueId → List Entry → List Entry
lent_entries c entries = changed_at c.0 lent_entry entries

-- the entries of a frame of the function g in the run where the copy c of the function n is lent
abbrev pub lent_in : ℕ → ValueId → FuncId → List Entry → List Entry
lent_in n c g entries = cond (g.0 == n) (lent_entries c entries) entries

-- the item makes the copy
abbrev pub makes_copy : Function → ValueId → Item → Bool
makes_copy f c i = has (item_defined f i) c.0

-- the copy is held, and an item of the trail made it
pub record IsMadeHeld (f : Function) (c : ValueId) (trail : List Item) (entries : List Entry) : Type 0 where
  pub datum : Datum
  pub held : entry_at entries c ≡ Held datum
  pub made : list_any (makes_copy f c) trail ≡ true

abbrev pub IsGoneOrMade : Function → ValueId → List Item → List Entry → Type 0
IsGoneOrMade f c trail entries = (entry_at entries c ≡ Gone) ⊎ IsMadeHeld f c trail entries

-- frames of g are alike: one has come as far as the other, and has the same entries, but that the copy of the function n, which is f, is lent
pub record IsLentFrame (n : ℕ) (f : Function) (c : ValueId) (g : FuncId) (trail : List Item) (entries : List Entry) (trail' : List Item) (entries' : List Entry)
    : Type 0 where
  pub trails : trail' ≡ trail
  pub lent : entries' ≡ lent_in n c g entries
  pub copy : g.0 ≡ n → IsGoneOrMade f c trail entries

-- the first run never goes alone
abbrev pub NeverAlone : FuncId → List Item → Type 0
NeverAlone g trail = ⊥
