-- What entries name, and which cells are lent.
use Rattle.std.proofs.Common.{◌≡◌, ◌<◌, ◌≤◌, ◌==◌, ℕ, List, length, true, false, Some, sym, ap, ◌∙◌, subst, arith, eq-eqb, eqb-true}
use Rattle.std.specs.Prelude.{option_and_then}
use Rattle.std.proofs.lemmas.Bool.{false_from_ne_true, true≢false}
use Rattle.std.proofs.lemmas.Option.{same_Some}
use Rattle.holder_model_laws.specs.holder_model.Data.{AddressOf, as_place}
use Rattle.holder_model_laws.specs.holder_model.Frames.{Entry, datum_in, entry_at}
use Rattle.holder_model_laws.specs.HolderLaws.inner.Cells.Cells.{IsInside, behind, has_cell}
use Rattle.holder_model_laws.proofs.HolderLaws.Cells.PlaceCells.{cell_within}
use Rattle.holder_model_values.specs.RunValues.Memory.{Memory}
use Rattle.holder_model_values.specs.RunValues.Places.{OnStack, Place, home_cells}
use Rattle.sil_ast.specs.declared.module.Module.{Module}
use Rattle.sil_ast.specs.declared.place.ValueId.{ValueId}
use Rattle.sil_verifier_frames.specs.inner.Placed.FramePlaces.{IsNamed, Names}

pub same_place : (p q : Place) → Some (AddressOf p) ≡ Some (AddressOf q) → p ≡ q
same_place p q e = same_Some p q (ap (option_and_then as_place) e)

-- an entry names one place
pub names_once : (entries : List Entry) (v : ValueId) (p q : Place) → Names entries v p → Names entries v q → p ≡ q
names_once entries v p q a b = same_place p q (sym a ∙ b)

-- where the entry stays, so does what it names
pub names_kept : (old new : List Entry) (v : ValueId) → entry_at new v ≡ entry_at old v → (p : Place) → Names new v p → Names old v p
names_kept old new v e p h = ap datum_in (sym e) ∙ h

pub names_still : (old new : List Entry) (v : ValueId) → entry_at new v ≡ entry_at old v → (p : Place) → Names old v p → Names new v p
names_still old new v e p h = ap datum_in e ∙ h

-- the cells of a place on the stack that is inside
pub inside_stack : (memory : Memory) (p : Place) → p.home ≡ OnStack → IsInside memory p → behind p ≤ length memory.stack
inside_stack memory p home inside = subst (λ g. behind p ≤ length (home_cells memory g)) home inside

pub stack_inside : (memory : Memory) (p : Place) → p.home ≡ OnStack → behind p ≤ length memory.stack → IsInside memory p
stack_inside memory p home le = subst (λ g. behind p ≤ length (home_cells memory g)) (sym home) le

-- a root's cell is one of the stack
pub named_cell : (m : Module) (memory : Memory) (entries : List Entry) (v : ValueId) → IsNamed m memory entries v → (p : Place) → Names entries v p
    → (n : ℕ) → has_cell p n ≡ true → n < length memory.stack
named_cell m memory entries v x p names n has =
    let here = subst (λ q. has_cell q n ≡ true) (names_once entries v p x.place names x.names) has in
    let all = inside_stack memory x.place x.home x.inside in
    let at = (cell_within x.place n here).1 in
    omega (arith, all, at)

pub other_way : (a b : ℕ) → (a == b) ≡ false → (b == a) ≡ false
other_way a b e = false_from_ne_true (b == a) (λ same. true≢false (sym (eq-eqb a b (sym (eqb-true b a same))) ∙ e))
