-- What each instruction becomes in lowered code, in the old names of values.
use Rattle.std.specs.Prelude.{ℕ, List, [], ◌∷◌, Bool, true, false, map, slice_get, slice_index_or}
use Rattle.std.specs.List.{flat_map}
use Rattle.std.specs.Option.{option_to_list}
use Rattle.instruction_table.specs.Forms.{number_of}
use Rattle.instruction_table.specs.declared.op.Op.{Op}
use Rattle.instruction_table.specs.declared.op.Op.TheVariants as op
use Rattle.sil_ast.specs.declared.inst.Inst.{Inst}
use Rattle.sil_ast.specs.declared.inst.Qualifier.{Qualifier}
use Rattle.sil_ast.specs.declared.inst.Qualifier.TheVariants as word
use Rattle.sil_ast.specs.declared.operands.Operand.{Operand}
use Rattle.sil_ast.specs.declared.place.ValueId.{ValueId}
use Rattle.sil_types_declarations.specs.TypeDefinitions.Declarations.{Declarations}
use Rattle.ownership_kinds_origins.specs.sil_types.Typing.FormRules.{is_at_storage}
use Rattle.ownership_lowering_model.specs.declared.columns.TheConstants.{LOWERINGS}
use Rattle.ownership_lowering_model.specs.declared.lowering.Lowering.{Lowering}
use Rattle.ownership_lowering_model.specs.declared.lowering.Lowering.TheVariants as lowering
use Rattle.ownership_lowering_model.specs.Extracts.{extracts_elements, extracts_fields}
use Rattle.ownership_lowering_model.specs.NewInsts.{load, loaded_from, release, retain}

-- what an instruction is lowered to
abbrev pub lowering_of : Op → Lowering
lowering_of o = slice_index_or LOWERINGS (number_of o) lowering.Stays

-- `R = load V` for a `load` or a `load_borrow`
abbrev pub plain_load : Inst → Inst
plain_load i = record i { op = op.Load; qualifier = word.Plain }

-- `store N to V` for a `store`
abbrev pub plain_store : Inst → Inst
plain_store i = record i { qualifier = word.Plain }

-- the operand with this number, where there is one
abbrev pub operand_at : ℕ → Inst → List Operand
operand_at n i = option_to_list (slice_get i.operands n)

-- `spare` is a new value, for what a place held
module _ (d : Declarations) (spare : ValueId) where
  abbrev pub retains_loaded : List ValueId → Operand → List Inst
  retains_loaded vs place = map (λ v. retain d (loaded_from place v)) vs

  abbrev pub loads_by : Qualifier → Inst → List Inst
  loads_by word.Plain i = plain_load i ∷ []
  loads_by word.Copy i = plain_load i ∷ flat_map (retains_loaded i.results) (operand_at 0 i)
  loads_by word.Take i = plain_load i ∷ []
  loads_by word.Trivial i = plain_load i ∷ []
  loads_by word.Init i = plain_load i ∷ []
  loads_by word.Assign i = plain_load i ∷ []

  abbrev pub loads_spare : Operand → Inst
  loads_spare place = load place spare

  abbrev pub releases_spare : Operand → Inst
  releases_spare place = release d (loaded_from place spare)

  -- the new value is in place before the old one is released
  abbrev pub assigns : Inst → Operand → List Inst
  assigns i place = loads_spare place ∷ plain_store i ∷ releases_spare place ∷ []

  abbrev pub stores_by : Qualifier → Inst → List Inst
  stores_by word.Plain i = plain_store i ∷ []
  stores_by word.Copy i = plain_store i ∷ []
  stores_by word.Take i = plain_store i ∷ []
  stores_by word.Trivial i = plain_store i ∷ []
  stores_by word.Init i = plain_store i ∷ []
  stores_by word.Assign i = flat_map (assigns i) (operand_at 1 i)

  abbrev pub releases_at : Operand → List Inst
  releases_at place = loads_spare place ∷ releases_spare place ∷ []

  -- whether the place is weak or unowned storage
  abbrev pub destroys_by : Bool → Inst → List Inst
  destroys_by true i = i ∷ []
  destroys_by false i = flat_map releases_at i.operands

  abbrev pub becomes_by : Lowering → Inst → List Inst
  becomes_by lowering.Stays i = i ∷ []
  becomes_by lowering.Vanishes i = []
  becomes_by lowering.Retains i = map (retain d) i.operands
  becomes_by lowering.Releases i = map (release d) i.operands
  becomes_by lowering.Loads i = loads_by i.qualifier i
  becomes_by lowering.Stores i = stores_by i.qualifier i
  becomes_by lowering.Destroys i = destroys_by (is_at_storage i) i
  becomes_by lowering.ExtractsFields i = flat_map (extracts_fields d i.results) i.operands
  becomes_by lowering.ExtractsElements i = flat_map (extracts_elements i.results) i.operands

  -- what stands in the place of an instruction that ends no block
  abbrev pub becomes : Inst → List Inst
  becomes i = becomes_by (lowering_of i.op) i
