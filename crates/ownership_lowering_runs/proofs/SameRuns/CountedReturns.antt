-- What a frame holds at a return is what it returns.
use Rattle.std.proofs.Common.{◌≡◌, ℕ, ◌+◌, List, [], ◌∷◌, arith}
use Rattle.sil_ast.specs.declared.function.Function.{Function}
use Rattle.sil_ast.specs.declared.inst.Inst.{Inst}
use Rattle.sil_ast.specs.declared.module.Module.{Module}
use Rattle.sil_ast.specs.declared.place.ObjectId.{ObjectId}
use Rattle.sil_cfg.specs.declared.item.Item.TheVariants as item
use Rattle.sil_cfg_items.specs.Items.{item_taken}
use Rattle.sil_verifier_runs.specs.holder_model.Data.{Datum}
use Rattle.sil_verifier_runs.specs.holder_model.Frames.{Frame, Operands}
use Rattle.sil_verifier_runs.specs.holder_model.HolderStates.{HolderState}
use Rattle.sil_verifier_runs.specs.holder_model.Holders.{one_object}
use Rattle.sil_verifier_runs.specs.holder_model.ModuleFacts.{facts_of, facts_told}
use Rattle.sil_verifier_runs.specs.holder_model.Standing.{stands_at}
use Rattle.sil_verifier_runs.specs.holder_model.States.{Task}
use Rattle.sil_verifier_runs.specs.holder_model_laws.HolderLaws.inner.Counts.Naming.{in_data, in_datum}
use Rattle.sil_verifier_runs.specs.holder_model_laws.HolderLaws.inner.Counts.Taking.{in_entries}
use Rattle.sil_verifier_runs.proofs.holder_model_laws.HolderLaws.Counts.Entries.{ends_counted}
use Rattle.sil_verifier_runs.proofs.holder_model_laws.HolderLaws.Counts.Moves.{operands_are}
use Rattle.sil_verifier_runs.proofs.holder_model_laws.HolderLaws.Counts.Sums.{total_cons}
use Rattle.ownership_lowering_runs.specs.OwnedCounts.inner.CountedReturns.{ReturnsFrom}
use Rattle.ownership_lowering_runs.proofs.OwnedCounts.CountedReturns.{ended}
use Rattle.ownership_lowering_runs.proofs.SameRuns.CountedMoves.{none_held}

pub returned_total : (m : Module) (bound : ℕ) (s : HolderState) (rest : List (Task Frame)) (frame : Frame) (f : Function) (i : Inst) (ops : Operands) (x : Datum)
    → ReturnsFrom m bound s rest frame f i ops x → (o : ObjectId) → in_entries (one_object o) frame.entries ≡ in_datum (one_object o) x
returned_total m bound s rest frame f i ops x h o =
    let ends = ends_counted (one_object o) (facts_told (facts_of m) frame.function) (item_taken f (item.Exit (stands_at f frame.trail))) frame.entries ops.left
    (operands_are (facts_told (facts_of m) frame.function) s.memory frame.entries (item_taken f (item.Exit (stands_at f frame.trail))) ops h.taken).left in
    let none = none_held (one_object o) ops.left h.none in
    let taken = ended m bound s rest frame f i ops x h o in
    let one : in_data (one_object o) (x ∷ []) ≡ in_datum (one_object o) x + in_data (one_object o) [] = total_cons (in_datum (one_object o)) x [] in
    omega (arith, ends, none, taken, one)
