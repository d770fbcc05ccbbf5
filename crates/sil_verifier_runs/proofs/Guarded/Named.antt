-- Objects among references, and what entries and cells hold of them.
use Rattle.std.proofs.Common.{◌≡◌, ℕ, ◌+◌, ◌≤◌, List, [], ◌∷◌, refl, ap, true, cond, ◌⊎◌, ⊎_elim}
use Rattle.std.proofs.Common.{Some, arith, eq-eqb}
use Rattle.std.specs.Prelude.{slice_get, unwrap_or}
use Rattle.std.proofs.lemmas.Bool.{false≢true, or_cases}
use Rattle.sil_ast.specs.declared.decl.Storage.TheVariants as storage
use Rattle.sil_ast.specs.declared.place.ObjectId.{ObjectId}
use Rattle.sil_ast.specs.declared.place.ValueId.{ValueId}
use Rattle.holder_model_values.specs.RunValues.Cells.{Cell, Empty, Keeps}
use Rattle.holder_model_values.specs.RunValues.Memory.{Memory, is_dead}
use Rattle.holder_model_values.specs.RunValues.Values.{Value, references_of}
use Rattle.sil_verifier_frames.specs.holder_model.Frames.{Entry, Gone, any_dead, entry_at}
use Rattle.sil_verifier_frames.specs.holder_model.Holders.{in_cell, in_cells, in_memory, of_references, one_object}
use Rattle.sil_verifier_frames.specs.holder_model.HolderStates.{in_entry}
use Rattle.sil_verifier_frames.specs.holder_model_laws.HolderLaws.inner.Counts.Taking.{in_entries}
use Rattle.sil_verifier_frames.proofs.holder_model_laws.HolderLaws.Counts.Most.{at_most}
use Rattle.sil_verifier_frames.proofs.holder_model_laws.HolderLaws.Counts.Sums.{total_cons}
use Rattle.sil_verifier_runs.specs.inner.Guarded.Guards.{IsNamed, KeepsAt}

pub counts_itself : (o : ObjectId) → one_object o o ≡ 1
counts_itself o = ap (λ b. cond b 1 0) (eq-eqb o.0 o.0 refl)

pub named_here : (o : ObjectId) (os : List ObjectId) → IsNamed o (o ∷ os)
named_here o os =
    let whole : of_references (one_object o) (o ∷ os) ≡ one_object o o + of_references (one_object o) os = total_cons (one_object o) o os in
    let one = counts_itself o in
    omega (arith, whole, one)

pub named_later : (o p : ObjectId) (os : List ObjectId) → IsNamed o os → IsNamed o (p ∷ os)
named_later o p os n =
    let whole : of_references (one_object o) (p ∷ os) ≡ one_object o p + of_references (one_object o) os = total_cons (one_object o) p os in
    omega (arith, whole, n)

pub named_nowhere : (o : ObjectId) → IsNamed o [] → ⊥
named_nowhere o n = omega (arith, n)

-- where one of the references is dead, that object is named
pub dead_named : (m : Memory) (os : List ObjectId) → any_dead m os ≡ true → (o : ObjectId) × IsNamed o os × (is_dead m o ≡ true)
dead_named m [] h = absurd (false≢true h)
dead_named m (o ∷ os) h = ⊎_elim (λ here. (o, named_here o os, here)) (λ later. let r = dead_named m os later in (r.0, named_later r.0 o os r.1, r.2)) (or_cases (is_dead m o) (any_dead m os) h)

pub entry_at_most : (weight : ObjectId → ℕ) (entries : List Entry) (v : ValueId) → in_entry weight (entry_at entries v) ≤ in_entries weight entries
entry_at_most weight entries v = at_most (in_entry weight) entries v.0 Gone refl

cell_at_most : (weight : ObjectId → ℕ) (cells : List Cell) (k : ℕ) (y : Value) → slice_get cells k ≡ Some (Keeps storage.Strong y)
    → of_references weight (references_of y) ≤ in_cells weight storage.Strong cells
cell_at_most weight cells k y e =
    let most : in_cell weight storage.Strong (unwrap_or (slice_get cells k) Empty) ≤ in_cells weight storage.Strong cells = at_most (in_cell weight storage.Strong) cells k Empty refl in
    let same : in_cell weight storage.Strong (unwrap_or (slice_get cells k) Empty) ≡ of_references weight (references_of y) =
    ap (λ c. in_cell weight storage.Strong (unwrap_or c Empty)) e in
    omega (arith, most, same)

-- what a cell keeps memory holds
pub kept_at_most : (weight : ObjectId → ℕ) (m : Memory) (k : ℕ) (y : Value) → KeepsAt m k y
    → of_references weight (references_of y) ≤ in_memory weight storage.Strong m
kept_at_most weight m k y keeps = let most = cell_at_most weight m.stack k y keeps in omega (arith, most)
