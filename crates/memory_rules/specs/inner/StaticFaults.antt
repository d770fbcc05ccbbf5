-- All faults of 608 and 611 in a function, in the order of a pass over it.
use Rattle.std.specs.Prelude.{ℕ, List, [], ◌++◌, Bool, true, false, ◌==◌, cond, Option, None}
use Rattle.std.specs.List.{flat_map}
use Rattle.sil_ast.specs.declared.function.Block.{Block}
use Rattle.sil_ast.specs.declared.function.Function.{Function}
use Rattle.sil_ast.specs.declared.inst.Inst.{Inst}
use Rattle.sil_ast.specs.declared.place.ValueId.{ValueId}
use Rattle.sil_rules.specs.Rules.{number_of}
use Rattle.sil_rules.specs.declared.rule.Rule.{Rule}
use Rattle.sil_rules.specs.declared.rule.Rule.TheVariants as rule
use Rattle.numbered_form.specs.PointChecks.inner.Faults.{fault_at, fault_where, faults_of}
use Rattle.numbered_form.specs.declared.point_checks.fault.PointFault.{PointFault}
use Rattle.memory_rules_accesses.specs.declared.access.Operated.{Operated}
use Rattle.memory_rules_accesses.specs.declared.columns.AccessKind.{AccessKind}
use Rattle.memory_rules_accesses.specs.declared.columns.AccessKind.TheVariants.{NoAccess, AllocatesSlot, AllocatesObject, DeallocatesSlot}
use Rattle.memory_rules_accesses.specs.declared.columns.AccessKind.TheVariants.{LendsValue, Upcasts, LendsLocation, NamesField, NamesMember, NamesElement}
use Rattle.memory_rules_accesses.specs.declared.columns.AccessKind.TheVariants.{Loads, Stores, Destroys, Passes}
use Rattle.memory_rules_accesses.specs.declared.source.Source.{Source}
use Rattle.memory_rules_accesses.specs.Operations.{access_kind_of, addresses_of, deallocates, operations_of}
use Rattle.memory_rules.specs.Statics.{AddressPair, crossed_with, do_clash, handed_of, is_no_slot, lacks, pair, pairs_of}
use Rattle.memory_rules.specs.declared.overlaps.HandedAddress.{HandedAddress}

-- by its row an instruction does nothing to a location, and deallocates no slot
abbrev pub is_idle_by : AccessKind → Bool
is_idle_by NoAccess = true
is_idle_by AllocatesSlot = true
is_idle_by AllocatesObject = true
is_idle_by DeallocatesSlot = false
is_idle_by LendsValue = true
is_idle_by Upcasts = true
is_idle_by LendsLocation = false
is_idle_by NamesField = true
is_idle_by NamesMember = true
is_idle_by NamesElement = true
is_idle_by Loads = false
is_idle_by Stores = false
is_idle_by Destroys = false
is_idle_by Passes = false

abbrev pub is_idle : Inst → Bool
is_idle i = is_idle_by (access_kind_of i.op)

abbrev pub is_overlap : Rule → Bool
is_overlap r = number_of r == number_of rule.InoutOverlap

-- arguments break neither rule
abbrev pub no_args_faults : ℕ → Block → List PointFault
no_args_faults n b = []

module _ (sources : List Source) where
  -- two addresses that a call is handed clash, and the first is the subject
  abbrev pub pair_faults : ℕ → ℕ → AddressPair → List PointFault
  pair_faults n k p = fault_where (do_clash sources p) (fault_at n k rule.InoutOverlap p.first.address)

  abbrev pub faults_with : ℕ → ℕ → HandedAddress → HandedAddress → List PointFault
  faults_with n k first second = pair_faults n k (pair first second)

  abbrev pub overlap_faults : ℕ → ℕ → Inst → List PointFault
  overlap_faults n k i = flat_map (pair_faults n k) (pairs_of (handed_of i))

  abbrev pub operated_faults : ℕ → ℕ → Operated → List PointFault
  operated_faults n k o = fault_where (lacks sources o) (fault_at n k rule.PartialAccess o.address)

  abbrev pub no_slot_faults : ℕ → ℕ → ValueId → List PointFault
  no_slot_faults n k v = fault_where (is_no_slot sources v) (fault_at n k rule.PartialAccess v)

  abbrev pub deallocation_faults : ℕ → ℕ → Inst → List PointFault
  deallocation_faults n k i = cond (deallocates i) (flat_map (no_slot_faults n k) (addresses_of i)) []

  abbrev pub lacking_faults : ℕ → ℕ → Inst → List PointFault
  lacking_faults n k i = flat_map (operated_faults n k) (operations_of i) ++ deallocation_faults n k i

  abbrev pub statics_at : ℕ → ℕ → Inst → List PointFault
  statics_at n k i = overlap_faults n k i ++ lacking_faults n k i

  abbrev pub statics_of : Function → List PointFault
  statics_of f = faults_of no_args_faults statics_at f

  -- the other value that takes part in a fault of the instruction
  abbrev pub other_by : Rule → Inst → ValueId → Option ValueId
  other_by r i v = cond (is_overlap r) (crossed_with sources i v) None
