-- What each value is to memory stays the same where a copy becomes a move and a destroy goes.
use Rattle.std.proofs.Common.{◌≡◌, ℕ, ◌<◌, List, [], length, replicate, refl, sym, ap}
use Rattle.copy_pairing_model.specs.Copies.{IsCopy, IsDestroy}
use Rattle.copy_pairing_model.specs.Rewritten.{moved, with_op}
use Rattle.instruction_table.specs.declared.op.Op.TheVariants as op
use Rattle.sil_verifier_trails.specs.memory_rules_accesses.Operations.{access_kind_of}
use Rattle.sil_verifier_trails.specs.memory_rules_accesses.Sources.{arg_sources, result_source, result_sources, source_by, sources_of}
use Rattle.sil_ast.specs.declared.function.Function.{Function}
use Rattle.sil_ast.specs.declared.inst.Inst.{Inst}
use Rattle.sil_ast.specs.declared.place.PointId.{PointId}
use Rattle.sil_ast.specs.declared.place.ValueId.{ValueId}
use Rattle.sil_cfg.specs.Items.{point_at}
use Rattle.sil_types_declarations.specs.TypeDefinitions.Declarations.{Declarations}
use Rattle.copy_pairing_acceptance.proofs.MovedMemory.MovedAccesses.{op_is}
use Rattle.copy_pairing_acceptance.proofs.MovedMemory.TablesSame.{table_same}

copied_sources : (d : Declarations) (i : Inst) → i.op ≡ op.CopyValue → result_sources d (with_op op.MoveValue i) ≡ result_sources d i
copied_sources d i e = ap (λ o. replicate (length i.results) (source_by (access_kind_of o) d i)) (sym e)

pub sources_same : (d : Declarations) (f : Function) (p : PointId) (c v : ValueId) (last : ℕ) → IsCopy f p c v → (h : IsDestroy f (point_at p.block.0 last) v) → p.index < last
    → h.inst.results ≡ [] → sources_of d (moved p last f) ≡ sources_of d f
sources_same d f p c v last copy destroy lt none =
    table_same (result_sources d) (arg_sources d f.signature) (arg_sources d f.signature) (λ n xs. refl) f p c v last copy destroy lt
    (copied_sources d copy.inst (op_is op.CopyValue copy.inst copy.copies.copies))
    (ap (λ (vs : List ValueId). replicate (length vs) (result_source d destroy.inst)) none)
