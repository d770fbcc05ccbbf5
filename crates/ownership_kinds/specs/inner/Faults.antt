-- All faults of kinds at the points of a function, in the order of a pass over them.
use Rattle.std.specs.Prelude.{ℕ, List, ◌++◌, Bool, false, not, ◌&&◌, ◌==◌, Option, Some, None, map, nat_lt}
use Rattle.std.specs.List.{flat_map}
use Rattle.std.specs.Option.{option_to_list}
use Rattle.sil_ast.specs.declared.function.Block.{Block}
use Rattle.sil_ast.specs.declared.function.BlockArg.{BlockArg}
use Rattle.sil_ast.specs.declared.function.Function.{Function}
use Rattle.sil_ast.specs.declared.inst.Inst.{Inst}
use Rattle.sil_ast.specs.declared.place.ValueId.{ValueId}
use Rattle.sil_rules.specs.declared.rule.Rule.TheVariants.{CyclicForwarding, MixedForwarding, KindMismatch, ArgumentKind}
use Rattle.numbered_form.specs.PointChecks.inner.Faults.{fault_at, fault_where}
use Rattle.numbered_form.specs.PointChecks.inner.Faults as points
use Rattle.numbered_form.specs.declared.point_checks.fault.PointFault.{PointFault}
use Rattle.numbered_form.specs.ValueTables.FirstValue.{first_value}
use Rattle.numbered_form.specs.ValueTables.Borrows.{is_borrow_in}
use Rattle.numbered_form.specs.declared.value_tables.borrows.Borrow.{Borrow}
use Rattle.sil_cfg_items.specs.declared.taken.Taken.{Taken}
use Rattle.sil_types_declarations.specs.TypeDefinitions.Declarations.{Declarations}
use Rattle.sil_types_declarations.specs.TypeDefinitions.Measures.{is_trivial}
use Rattle.sil_types_declarations.specs.declared.type_definitions.kind.Kind.{Kind}
use Rattle.ownership_kinds_origins.specs.Switched.{switch_to}
use Rattle.ownership_kinds_origins.specs.declared.switched.Switched.{Switched}
use Rattle.ownership_kinds.specs.Statics.{all_taken, is_annotated_well, is_mismatch, lacks_argument, mixed_operand, needs_argument}

abbrev pub is_one : Option ValueId → ValueId → Bool
is_one None v = false
is_one (Some r) v = r.0 == v.0

-- the value is the first on a ring
abbrev pub ring_faults : Option ValueId → ℕ → ℕ → ValueId → List PointFault
ring_faults ring n k v = fault_where (is_one ring v) (fault_at n k CyclicForwarding v)

module _ (kinds : ValueId → Option Kind) where
  abbrev pub mixed_faults : ℕ → ℕ → Inst → List PointFault
  mixed_faults n k i = map (fault_at n k MixedForwarding) (option_to_list (mixed_operand kinds i))

  abbrev pub taken_faults : List Borrow → ℕ → ℕ → Taken → List PointFault
  taken_faults borrows n k t =
      fault_where (is_mismatch (is_borrow_in borrows t.value) t.role (kinds t.value)) (fault_at n k KindMismatch t.value)

  abbrev pub needy_faults : Bool → ℕ → ℕ → ValueId → List PointFault
  needy_faults lacks n k v = fault_where (lacks && needs_argument (kinds v)) (fault_at n k ArgumentKind v)

  abbrev pub lacking_faults : Function → ℕ → ℕ → Inst → List PointFault
  lacking_faults f n k i = flat_map (needy_faults (lacks_argument f i) n k) (option_to_list (first_value i))

  abbrev pub annotation_faults : Declarations → Option Switched → ℕ → BlockArg → List PointFault
  annotation_faults d s n a =
      fault_where (nat_lt 0 n && not (is_annotated_well kinds s (is_trivial d a.ty) a.kind)) (fault_at n 0 ArgumentKind a.value)

  module _ (ring : Option ValueId) where
    abbrev pub arg_faults : Declarations → Option Switched → ℕ → BlockArg → List PointFault
    arg_faults d s n a = ring_faults ring n 0 a.value ++ annotation_faults d s n a

    -- of the arguments of a block
    abbrev pub args_faults : Declarations → Function → ℕ → Block → List PointFault
    args_faults d f n b = flat_map (arg_faults d (switch_to f n) n) b.args

    -- of an instruction
    abbrev pub inst_faults : List Borrow → Function → ℕ → ℕ → Inst → List PointFault
    inst_faults borrows f n k i =
        flat_map (ring_faults ring n k) i.results
        ++ (mixed_faults n k i ++ (flat_map (taken_faults borrows n k) (all_taken i) ++ lacking_faults f n k i))

    -- all faults of a function, of the values on rings the one that is given alone
    abbrev pub faults_of : List Borrow → Declarations → Function → List PointFault
    faults_of borrows d f = points.faults_of (args_faults d f) (inst_faults borrows f) f
