-- No value gets its kind from the copy: what forwards or takes apart would end it, or ask for another kind.
use Rattle.std.proofs.Common.{◌≡◌, ℕ, List, [], ◌∷◌, ◌++◌, length, map, replicate, refl, sym, ap, ◌∙◌, subst, Bool, Option, Some, None, true, false}
use Rattle.std.specs.Prelude.{◌==◌, ◌&&◌, IfSome, if◌then◌else◌, option_map, slice_get}
use Rattle.std.specs.List.{cons_option, filter_map, flat_map, range_with_len}
use Rattle.std.proofs.lemmas.Bool.{eqb-true}
use Rattle.instruction_table.specs.Forms.{ending_of, result_kind_of, roles_of}
use Rattle.instruction_table.specs.declared.entries.Ending.{Ending}
use Rattle.instruction_table.specs.declared.entries.Ending.TheVariants as ending
use Rattle.instruction_table.specs.declared.entries.ResultKind.{ResultKind}
use Rattle.instruction_table.specs.declared.entries.ResultKind.TheVariants.{NoneResult, OwnedResult, ScopeResult, AddressResult, ForwardedResult, OperandResult}
use Rattle.instruction_table.specs.declared.entries.Role.{Role}
use Rattle.instruction_table.specs.declared.entries.Role.TheVariants as role
use Rattle.instruction_table.specs.declared.op.Op.{Op}
use Rattle.instruction_table.specs.declared.op.Op.TheVariants as op
use Rattle.sil_cfg_items.specs.Roles.{by_row, conventions_in, last_roles, roles_for, taken_along, taken_by, taken_each}
use Rattle.numbered_form.specs.Lists.{Each}
use Rattle.ownership_kinds_chains.specs.OwnershipChains.Chains.{operands_at}
use Rattle.ownership_kinds_chains.specs.OwnershipChains.Facts.{origin_at}
use Rattle.ownership_kinds_chains.specs.declared.ownership_chains.definition.Definition.{Definition}
use Rattle.ownership_kinds_chains.specs.declared.ownership_chains.definition.Origin.{Origin}
use Rattle.ownership_kinds_chains.specs.declared.ownership_chains.definition.Origin.TheVariants as origin
use Rattle.copy_pairing_model.specs.ownership_kinds_origins.Origins.{arg_definition, arg_definition_by, arg_definitions, chain_operands, definitions_of, is_trivial_or_untyped, is_zero}
use Rattle.copy_pairing_model.specs.ownership_kinds_origins.Origins.{result_definition, result_definitions, result_origin}
use Rattle.copy_pairing_model.specs.ownership_kinds_origins.Switched.{edge_to, switch_to, switched_by, switches_by, switches_from}
use Rattle.copy_pairing_model.specs.ownership_kinds_origins.declared.switched.Switched.{Switched}
use Rattle.numbered_form.specs.PointChecks.Points.{IsAt}
use Rattle.sil_verifier_trails.proofs.holder_model_typing.RunTypingLaws.Rows.Tables.{row_at}
use Rattle.sil_ast.specs.declared.function.ArgKind.{ArgKind}
use Rattle.sil_ast.specs.declared.function.ArgKind.TheVariants as annotation
use Rattle.sil_ast.specs.declared.function.Block.{Block}
use Rattle.sil_ast.specs.declared.function.BlockArg.{BlockArg}
use Rattle.sil_ast.specs.declared.function.Function.{Function}
use Rattle.sil_ast.specs.declared.inst.Edge.{Edge}
use Rattle.sil_ast.specs.declared.inst.Inst.{Inst}
use Rattle.sil_ast.specs.declared.operands.Operand.{Operand}
use Rattle.sil_ast.specs.declared.place.PointId.{PointId}
use Rattle.sil_ast.specs.declared.place.ValueId.{ValueId}
use Rattle.sil_types.specs.Typing.RowTypes.{made_types}
use Rattle.sil_types_declarations.specs.TypeDefinitions.Declarations.{Declarations}
use Rattle.sil_types_declarations.specs.TypeDefinitions.Measures.{is_trivial}
use Rattle.numbered_form.specs.ValueTables.FirstValue.{first_value, value_of}
use Rattle.copy_pairing_model.specs.Copies.{is_op}
use Rattle.copy_pairing_model.specs.Rewritten.{takes}
use Rattle.copy_pairing_acceptance.proofs.LentFunctions.Insts.{op_is}
use Rattle.copy_pairing_acceptance.proofs.LentFunctions.Lists.{each_flat, each_front, each_got, each_map, each_place}
use Rattle.copy_pairing_acceptance.proofs.LentFunctions.Ready.{IsValue, Ready}
use Rattle.copy_pairing_acceptance.proofs.LentFunctions.Roles.{IsGentle, gentle_at, is_mild}
use Rattle.copy_pairing_acceptance.proofs.LentFunctions.ValueRows.{args_level, in_column, none, of_rows, origin_in, results_level}

-- ---- what forwards or takes apart

abbrev pub hands_on : ResultKind → Bool
hands_on NoneResult = false
hands_on OwnedResult = false
hands_on ScopeResult = false
hands_on AddressResult = false
hands_on ForwardedResult = true
hands_on OperandResult = true

-- it does so to each operand
handing : (o : Op) → hands_on (result_kind_of o) ≡ true → (x : Role) × (roles_of o ≡ x ∷ []) × (is_mild x ≡ false)
handing op.Struct e = (role.Forwarded, refl, refl)
handing op.Tuple e = (role.Forwarded, refl, refl)
handing op.Enum e = (role.Forwarded, refl, refl)
handing op.StructExtract e = (role.Lent, refl, refl)
handing op.TupleExtract e = (role.Lent, refl, refl)
handing op.DestructureStruct e = (role.Forwarded, refl, refl)
handing op.DestructureTuple e = (role.Forwarded, refl, refl)
handing op.SwitchEnum e = (role.Forwarded, refl, refl)
handing op.Upcast e = (role.Forwarded, refl, refl)
handing _ e = absurd (let wrong : false ≡ true = e in cc)

switching : (o : Op) → ending_of o ≡ ending.Cases → hands_on (result_kind_of o) ≡ true
switching op.SwitchEnum e = refl
switching _ e = absurd (cc)

abbrev pub IsOther : ValueId → ValueId → Type 0
IsOther c u = (u.0 == c.0) ≡ false

module _ (d : Declarations) (f : Function) (p : PointId) (c v : ValueId) (r : Ready d f p c v) where
  untaken_by : (x : Role) → is_mild x ≡ false → (os : List Operand) → Each (IsGentle d f p c v r) (taken_each os (replicate (length os) (by_row x)))
      → Each (λ (o : Operand). IsOther c o.value) os
  untaken_by x rough [] h = tt
  untaken_by x rough (o ∷ os) h = (one (o.value.0 == c.0) refl, untaken_by x rough os h.1)
    where
      one : (b : Bool) → (o.value.0 == c.0) ≡ b → IsOther c o.value
      one false e = e
      one true e = absurd (let wrong : true ≡ false = sym (h.0 (eqb-true o.value.0 c.0 e)) ∙ rough in cc)

  rough_roles : (x : Role) → is_mild x ≡ false → (i : Inst) → last_roles x (conventions_in i) (length i.operands) ≡ replicate (length i.operands) (by_row x)
  rough_roles role.Consumed e i = refl
  rough_roles role.Used e i = refl
  rough_roles role.Lent e i = refl
  rough_roles role.Forwarded e i = refl
  rough_roles role.AddressRole e i = refl
  rough_roles role.AnyRole e i = refl
  rough_roles role.ScopeRole e i = refl
  rough_roles role.ByParameter e i = absurd (let wrong : true ≡ false = e in cc)
  rough_roles role.Counted e i = refl

  -- an instruction that hands its operands on doesn't have the copy among them
  pub operands_avoid : (n k : ℕ) (i : Inst) → IsAt f n k i → hands_on (result_kind_of i.op) ≡ true → Each (λ (o : Operand). IsOther c o.value) i.operands
  operands_avoid n k i at e =
      let h = handing i.op e in
      untaken_by h.0 h.2 i.operands
      (subst (λ ts. Each (IsGentle d f p c v r) (taken_each i.operands ts))
      (ap (λ rs. roles_for rs (conventions_in i) (length i.operands)) h.1 ∙ rough_roles h.0 h.2 i)
      (each_front (IsGentle d f p c v r) (taken_by i) (flat_map taken_along i.edges) (gentle_at d f p c v r n k i at (calm (is_op op.DestroyValue i) refl))))
    where
      calm : (b : Bool) → is_op op.DestroyValue i ≡ b → (is_op op.DestroyValue i && takes c i) ≡ false
      calm false x = ap (λ b. b && takes c i) x
      calm true x = absurd (let wrong : false ≡ true = sym (ap (λ o. hands_on (result_kind_of o)) (op_is op.DestroyValue i x)) ∙ e in cc)

  -- ---- switches

  abbrev IsSwitchedOther : Switched → Type 0
  IsSwitchedOther s = IsOther c s.operand

  last_at : (n : ℕ) (b : Block) → slice_get f.blocks n ≡ Some b → IsAt f n (length b.insts) b.terminator
  last_at n b e = record { within = b; is_block = e; is_inst = last b.insts }
    where
      last : (is : List Inst) → slice_get (is ++ b.terminator ∷ []) (length is) ≡ Some b.terminator
      last [] = refl
      last (i ∷ is) = last is

  first_other : (os : List Operand) → Each (λ (o : Operand). IsOther c o.value) os → (u : ValueId) → option_map value_of (slice_get os 0) ≡ Some u → IsOther c u
  first_other [] h u e = absurd (let wrong : None ≡ Some u = e in cc)
  first_other (o ∷ os) h u e = let same : o.value ≡ u = cc in subst (IsOther c) same h.0

  by_edges : (block : ℕ) (i : Inst) → ((u : ValueId) → first_value i ≡ Some u → IsOther c u) → (es : List Edge) → Each IsSwitchedOther (filter_map (edge_to block i) es)
  by_edges block i h [] = tt
  by_edges block i h (e ∷ es) = pushed (edge_to block i e) (filter_map (edge_to block i) es) (one (e.block.0 == block)) (by_edges block i h es)
    where
      mapped : (o : Option ValueId) → first_value i ≡ o → IfSome (option_map (switched_by e) o) IsSwitchedOther
      mapped None q = tt
      mapped (Some u) q = h u q

      one : (b : Bool) → IfSome (if b then option_map (switched_by e) (first_value i) else None) IsSwitchedOther
      one true = mapped (first_value i) refl
      one false = tt

      pushed : (o : Option Switched) (rest : List Switched) → IfSome o IsSwitchedOther → Each IsSwitchedOther rest → Each IsSwitchedOther (cons_option o rest)
      pushed None rest x y = y
      pushed (Some s) rest x y = (x, y)

  switches_avoid : (block n : ℕ) (b : Block) → slice_get f.blocks n ≡ Some b → Each IsSwitchedOther (switches_from block b)
  switches_avoid block n b e = at (ending_of b.terminator.op) refl
    where
      at : (x : Ending) → ending_of b.terminator.op ≡ x → Each IsSwitchedOther (switches_by x block b.terminator)
      at ending.Inside q = tt
      at ending.OneBranch q = tt
      at ending.TwoBranches q = tt
      at ending.Cases q =
          by_edges block b.terminator
          (first_other b.terminator.operands (operands_avoid n (length b.insts) b.terminator (last_at n b e) (switching b.terminator.op q))) b.terminator.edges
      at ending.Return q = tt
      at ending.Unreachable q = tt

  pub switch_avoids : (n : ℕ) (s : Switched) → switch_to f n ≡ Some s → IsSwitchedOther s
  switch_avoids n s e =
      each_got IsSwitchedOther (flat_map (switches_from n) f.blocks) 0 s
      (each_flat IsSwitchedOther (switches_from n) f.blocks (each_place (λ b. Each IsSwitchedOther (switches_from n b)) f.blocks (λ k b is. switches_avoid n k b is))) e

  -- ---- definitions

  -- where the kind is that of the operands, the copy is none of them
  abbrev pub Avoids : Origin → List ValueId → Type 0
  Avoids origin.Owned ops = Unit {0}
  Avoids origin.Lender ops = Unit {0}
  Avoids origin.Plain ops = Unit {0}
  Avoids origin.Forward ops = Each (IsOther c) ops
  Avoids origin.Same ops = Each (IsOther c) ops
  Avoids origin.Lent ops = Each (IsOther c) ops
  Avoids origin.Address ops = Unit {0}

  abbrev DefinitionAvoids : Definition → Type 0
  DefinitionAvoids x = Avoids x.origin x.operands

  by_result : (x : ResultKind) (trivial : Bool) (os : List Operand) → (hands_on x ≡ true → Each (λ (o : Operand). IsOther c o.value) os)
      → Avoids (result_origin x trivial) (chain_operands x (map value_of os))
  by_result NoneResult trivial os h = tt
  by_result OwnedResult true os h = tt
  by_result OwnedResult false os h = tt
  by_result ScopeResult true os h = tt
  by_result ScopeResult false os h = tt
  by_result AddressResult trivial os h = tt
  by_result ForwardedResult true os h = tt
  by_result ForwardedResult false os h = each_map (IsOther c) value_of os (h refl)
  by_result OperandResult true os h = tt
  by_result OperandResult false os h = each_map (IsOther c) value_of os (h refl)

  by_argument : (entry : Bool) (s : Option Switched) (k : ArgKind) (trivial : Bool) → ((x : Switched) → s ≡ Some x → IsSwitchedOther x)
      → DefinitionAvoids (arg_definition_by entry s k trivial)
  by_argument entry s annotation.Plain trivial h = tt
  by_argument entry s annotation.Owned true h = tt
  by_argument entry s annotation.Owned false h = tt
  by_argument true s annotation.Guaranteed true h = tt
  by_argument true s annotation.Guaranteed false h = tt
  by_argument false s annotation.Guaranteed true h = tt
  by_argument false None annotation.Guaranteed false h = tt
  by_argument false (Some x) annotation.Guaranteed false h = (h x refl, tt)

  pub avoided : (w : ValueId) → IsValue f w → Avoids (origin_at (definitions_of d f) w) (operands_at (definitions_of d f) w)
  avoided w lt =
      subst (λ o. Avoids o (operands_at (definitions_of d f) w)) (sym (origin_in d f w))
      (subst (Avoids (row_at none (definitions_of d f) w).origin) (sym (in_column (λ (x : Definition). x.operands) none (definitions_of d f) w.0))
      (of_rows c f r.formed none (arg_definitions d f) (result_definitions d) (args_level d f) (results_level d) DefinitionAvoids
      (λ n k i at. each_map DefinitionAvoids (result_definition d i) (range_with_len 0 (length i.results))
      (each_place (λ j. DefinitionAvoids (result_definition d i j)) (range_with_len 0 (length i.results))
      (λ place j is. by_result (result_kind_of i.op) (is_trivial_or_untyped d (slice_get (made_types d i) j)) i.operands (operands_avoid n k i at))))
      (λ n b is. each_map DefinitionAvoids (arg_definition d (is_zero n) (switch_to f n)) b.args
      (each_place (λ (a : BlockArg). DefinitionAvoids (arg_definition d (is_zero n) (switch_to f n) a)) b.args
      (λ place a at. by_argument (is_zero n) (switch_to f n) a.kind (is_trivial d a.ty) (switch_avoids n)))) w lt))
