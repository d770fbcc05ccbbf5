-- Operands that are addresses: what their entries name, and what a call hands over by them.
use Rattle.std.specs.Prelude.{◌≡◌, List, [], ◌∷◌, Some}
use Rattle.argument_conventions.specs.Arguments.{Told}
use Rattle.argument_conventions.specs.Rows.{address_row}
use Rattle.argument_conventions.specs.declared.row.AddressRow.{AddressRow}
use Rattle.holder_model_laws.specs.holder_model.Data.{AddressOf, Datum}
use Rattle.holder_model_laws.specs.holder_model.Frames.{Entry}
use Rattle.instruction_table.specs.declared.entries.Role.TheVariants as role
use Rattle.sil_cfg_items.specs.declared.taken.Taken.{Taken}
use Rattle.holder_model_values.specs.RunValues.Places.{Place}
use Rattle.sil_verifier_frames.specs.inner.Placed.FramePlaces.{Names}

-- an operand that is an address by its row names its place
abbrev pub IsNamedBy : List Entry → Taken → Datum → Type 0
IsNamedBy entries t x = t.role ≡ role.AddressRole → (p : Place) → x ≡ AddressOf p → Names entries t.value p

abbrev pub AreNamedBy : List Entry → List Taken → List Datum → Type 0
AreNamedBy entries [] [] = Unit {0}
AreNamedBy entries [] (x ∷ xs) = ⊥
AreNamedBy entries (t ∷ ts) [] = ⊥
AreNamedBy entries (t ∷ ts) (x ∷ xs) = IsNamedBy entries t x × AreNamedBy entries ts xs

-- what is handed over is the address of a place, which the entry names
abbrev pub IsHandedAs : List Entry → Taken → Datum → Type 0
IsHandedAs entries t x = (row : AddressRow) → t.handed ≡ Some row → (p : Place) × (x ≡ AddressOf p) × Names entries t.value p

abbrev pub AreHandedAs : List Entry → List Taken → List Datum → Type 0
AreHandedAs entries [] xs = Unit {0}
AreHandedAs entries (t ∷ ts) [] = ⊥
AreHandedAs entries (t ∷ ts) (x ∷ xs) = IsHandedAs entries t x × AreHandedAs entries ts xs

-- operands are handed over as the signature of the callee says
abbrev pub AreAlike : List Told → List Taken → Type 0
AreAlike [] [] = Unit {0}
AreAlike [] (t ∷ ts) = ⊥
AreAlike (a ∷ told) [] = ⊥
AreAlike (a ∷ told) (t ∷ ts) = (t.handed ≡ address_row a.convention) × AreAlike told ts
