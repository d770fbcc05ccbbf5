-- What a call lends so that nobody shares it has no cell that an open scope lends.
use Rattle.std.proofs.Common.{◌≡◌, ℕ, List, true, false, not, refl, sym, ap, ◌∙◌}
use Rattle.std.proofs.lemmas.Bool.{true≢false}
use Rattle.sil_verifier_frames.specs.holder_model.Frames.{Frame, LentPlace}
use Rattle.sil_verifier_frames.specs.holder_model.States.{Task}
use Rattle.sil_verifier_frames.specs.memory_rules_accesses.Operations.{operations_of}
use Rattle.sil_verifier_frames.specs.memory_rules_accesses.Rows.{is_part}
use Rattle.sil_verifier_frames.specs.memory_rules_parts.Loans.{writes}
use Rattle.sil_verifier_frames.proofs.sil_verifier_trails.AcceptedPlaces.Apart.{apart_by_cells}
use Rattle.sil_verifier_frames.proofs.sil_verifier_trails.AcceptedPlaces.LoansKept.{loans_unwritten}
use Rattle.sil_verifier_frames.specs.sil_verifier_values.inner.Known.{IsAcceptedBody}
use Rattle.argument_conventions.specs.Rows.{only_reads, row_of}
use Rattle.argument_conventions.specs.declared.convention.AddressConvention.{AddressConvention}
use Rattle.argument_conventions.specs.declared.convention.AddressConvention.TheVariants as convention
use Rattle.numbered_form.proofs.PointChecks.Among.{contained_among}
use Rattle.holder_model_values.specs.RunValues.Memory.{Memory}
use Rattle.sil_ast.specs.declared.function.Function.{Function}
use Rattle.sil_ast.specs.declared.inst.Inst.{Inst}
use Rattle.sil_ast.specs.declared.module.Module.{Module}
use Rattle.sil_ast.specs.declared.place.PointId.{PointId}
use Rattle.sil_cfg.specs.declared.item.Item.TheVariants as item
use Rattle.sil_verifier_frames.specs.inner.Placed.FramePlaces.{HoldsPlaces, is_lent}
use Rattle.sil_verifier_frames.specs.inner.Placed.PlaceStates.{AreLentBy}
use Rattle.sil_verifier_frames.specs.inner.Placed.TrailLaws.{TrailLaws}
use Rattle.sil_verifier_frames.proofs.Placed.Calls.{lent_cell}
use Rattle.sil_verifier_frames.proofs.Placed.Lending.{IsCallAt, is_alone, lent_by_one}
use Rattle.sil_verifier_runs.proofs.Loans.Clear.{other_location}
use Rattle.sil_verifier_runs.proofs.Loans.Undisturbed.{IsLentCell}

-- what isn't handed over to be shared may be written
may_write : (c : AddressConvention) → (row_of c).shared ≡ false → not (only_reads (row_of c)) ≡ true
may_write convention.Inout e = refl
may_write convention.In e = refl
may_write convention.InGuaranteed e = absurd (true≢false e)
may_write convention.Out e = refl

module _ (laws : TrailLaws) (m : Module) (number : ℕ) (f : Function) (body : IsAcceptedBody m number f) (memory : Memory) (frame : Frame) (rest : List (Task Frame))
    (h : HoldsPlaces m memory f frame rest) (point : PointId) (x : Inst) (lent : List LentPlace) (call : IsCallAt laws m number f body frame.trail point x)
    (by : AreLentBy frame.entries (operations_of x) lent) where
  pub not_lent : (n : ℕ) → IsLentCell laws m number f body memory frame rest h (item.Inst point) call.trail n → is_lent lent n ≡ true → ⊥
  not_lent n cell e =
      let l = lent_cell lent n e in
      let o = lent_by_one frame.entries (operations_of x) lent by l.0 l.1 in
      let at = call.located o.by o.among in
      let c = call.tabled o.by o.among l.0.row o.operation in
      let writing : writes (is_part at.location) o.by.operation ≡ true =
      ap (writes (is_part at.location)) o.operation ∙ ap (λ r. not (only_reads r)) c.1 ∙ may_write c.0 (ap (λ r. r.shared) (sym c.1) ∙ l.2) in
      other_location m f memory frame rest h cell.scope n cell.cell apart_by_cells o.by.address at.location at.is at.there at.made
      (is_alone laws m number f body frame.trail point x call o.by o.among l.0.row o.operation l.2) l.0.place o.names
      (loans_unwritten m number f body frame.trail point call.trail cell.scope cell.cell.address cell.on o.by at.location
      (record { inst = x; is = call.inst; among = contained_among o.by (operations_of x) o.among; at = at.is }) writing)
      l.3
