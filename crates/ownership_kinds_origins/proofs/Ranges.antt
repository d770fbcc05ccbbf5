-- What a value is made from or another name of is a value of the function.
use Rattle.std.proofs.Common.{◌≡◌, ℕ, zero, suc, ◌+◌, ◌<◌, ◌≤◌, List, [], ◌∷◌, ◌++◌, map, length, replicate, cond, sym, subst, arith, Bool, true, false, Option, Some, None, IfSome}
use Rattle.std.specs.Prelude.{All, Contains, slice_get, unwrap_or, option_map, ◌==◌}
use Rattle.std.specs.List.{flat_map, filter_map, cons_option, range_with_len}
use Rattle.std.specs.Option.{option_to_list}
use Rattle.std.proofs.lemmas.List.Elements.{All-nil, All-cons, All-contains}
use Rattle.instruction_table.specs.Forms.{ending_of, result_kind_of}
use Rattle.instruction_table.specs.declared.entries.Ending.{Ending}
use Rattle.instruction_table.specs.declared.entries.Ending.TheVariants as ending
use Rattle.instruction_table.specs.declared.entries.ResultKind.{ResultKind}
use Rattle.instruction_table.specs.declared.entries.ResultKind.TheVariants.{NoneResult, OwnedResult, ScopeResult, AddressResult, ForwardedResult, OperandResult}
use Rattle.sil_ast.specs.declared.function.ArgKind.{ArgKind}
use Rattle.sil_ast.specs.declared.function.ArgKind.TheVariants as annotation
use Rattle.sil_ast.specs.declared.function.Function.{Function}
use Rattle.sil_ast.specs.declared.inst.Edge.{Edge}
use Rattle.sil_ast.specs.declared.inst.Inst.{Inst}
use Rattle.sil_ast.specs.declared.operands.Operand.{Operand}
use Rattle.sil_ast.specs.declared.place.ValueId.{ValueId}
use Rattle.numbered_form.specs.Insts.{EachInBlock}
use Rattle.numbered_form.specs.inner.Limits.{value_count, IsFunctionInLimits}
use Rattle.numbered_form.specs.Lists.{Each}
use Rattle.numbered_form.specs.Numbering.{values_of, IsValueBelow, IsInstInRange, IsFunctionNumbered}
use Rattle.sil_types.specs.sil_types_declarations.TypeDefinitions.Declarations.{Declarations}
use Rattle.ownership_kinds_chains.specs.OwnershipChains.Chains.{operands_at, IsInRange}
use Rattle.ownership_kinds_chains.specs.declared.ownership_chains.definition.Definition.{Definition}
use Rattle.ownership_kinds_origins.specs.inner.Laws.{AreInRange}
use Rattle.ownership_kinds_origins.specs.Origins.{arg_definition, arg_definition_by, chain_operands, result_definition, result_definitions, arg_definitions, definitions_of, is_zero, switch_operand}
use Rattle.ownership_kinds_origins.specs.Renamings.{arg_renaming, default_operand, renames, renamed, result_renamings, arg_renamings, renamings_of}
use Rattle.numbered_form.proofs.ValueTables.Rows.{each_flat, each_row}
use Rattle.numbered_form.specs.ValueTables.FirstValue.{first_value, value_of}
use Rattle.ownership_kinds_origins.specs.Switched.{edge_to, switched_by, switch_to, switches_by, switches_from}
use Rattle.ownership_kinds_origins.specs.declared.switched.Switched.{Switched}
use Rattle.ownership_kinds_origins.proofs.Counts.{are_of_values}

each_map : {A B : Type 0} (f : A → B) (P : A → Type 0) (Q : B → Type 0) → ((x : A) → P x → Q (f x)) → (xs : List A) → Each P xs → Each Q (map f xs)
each_map f P Q e [] h = tt
each_map f P Q e (x ∷ xs) h = (e x h.0, each_map f P Q e xs h.1)

-- of whatever elements
all_map : {A B : Type 0} (f : A → B) (Q : B → Type 0) → ((x : A) → Q (f x)) → (xs : List A) → Each Q (map f xs)
all_map f Q e [] = tt
all_map f Q e (x ∷ xs) = (e x, all_map f Q e xs)

each_replicate : {A : Type 0} (P : A → Type 0) (n : ℕ) (x : A) → P x → Each P (replicate n x)
each_replicate P zero x h = tt
each_replicate P (suc n) x h = (h, each_replicate P n x h)

each_kept : {A B : Type 0} (f : A → Option B) (P : B → Type 0) → ((x : A) → IfSome (f x) P) → (xs : List A) → Each P (filter_map f xs)
each_kept f P e [] = tt
each_kept {A} {B} f P e (x ∷ xs) = at (f x) (e x) (each_kept f P e xs)
  where
    at : (o : Option B) → IfSome o P → Each P (filter_map f xs) → Each P (cons_option o (filter_map f xs))
    at None h rest = rest
    at (Some y) h rest = (h, rest)

first_of : {A : Type 0} (P : A → Type 0) (xs : List A) → Each P xs → IfSome (slice_get xs 0) P
first_of P [] h = tt
first_of P (x ∷ xs) h = h.0

of_one : {A : Type 0} (P : A → Type 0) (o : Option A) → IfSome o P → Each P (option_to_list o)
of_one P None h = tt
of_one P (Some x) h = (h, tt)

some_map : {A B : Type 0} (f : A → B) (P : A → Type 0) (Q : B → Type 0) → ((x : A) → P x → Q (f x)) → (o : Option A) → IfSome o P → IfSome (option_map f o) Q
some_map f P Q e None h = tt
some_map f P Q e (Some x) h = e x h

pub all_from_each : {A : Type 0} (P : A → Type 0) (xs : List A) → Each P xs → All P xs
all_from_each P [] h = All-nil P
all_from_each P (x ∷ xs) h = All-cons P x xs h.0 (all_from_each P xs h.1)

pub each_at : {A : Type 0} (P : A → Type 0) (xs : List A) (x : A) → Each P xs → Contains xs x → P x
each_at P xs x h c = All-contains P xs x (all_from_each P xs h) c

-- the operands are among this many values
abbrev Within : ℕ → Definition → Type 0
Within n def = Each (λ w. w.0 < n) def.operands

abbrev IsSwitchWithin : ℕ → Switched → Type 0
IsSwitchWithin n s = s.operand.0 < n

abbrev IsBelow : ℕ → ValueId → Type 0
IsBelow n v = v.0 < n

operands_within : (n : ℕ) (operands : List Operand) → Each (IsValueBelow n) operands → Each (IsBelow n) (map value_of operands)
operands_within n operands h = each_map value_of (IsValueBelow n) (IsBelow n) (λ o below. below) operands h

-- switches
module _ (values blocks functions : ℕ) where
  abbrev Used : Inst → Type 0
  Used i = IsInstInRange values blocks functions i

  edge_within : (n : ℕ) (i : Inst) → Used i → (e : Edge) → IfSome (edge_to n i e) (IsSwitchWithin values)
  edge_within n i used e = at (e.block.0 == n)
    where
      switch : IfSome (option_map (switched_by e) (first_value i)) (IsSwitchWithin values)
      switch =
          some_map (switched_by e) (IsBelow values) (IsSwitchWithin values) (λ v below. below) (first_value i)
          (some_map value_of (IsValueBelow values) (IsBelow values) (λ o below. below) (slice_get i.operands 0) (first_of (IsValueBelow values) i.operands used.operands))

      at : (b : Bool) → IfSome (cond b (option_map (switched_by e) (first_value i)) None) (IsSwitchWithin values)
      at true = switch
      at false = tt

  switches_within : (n : ℕ) (i : Inst) (kind : Ending) → Used i → Each (IsSwitchWithin values) (switches_by kind n i)
  switches_within n i ending.Inside used = tt
  switches_within n i ending.OneBranch used = tt
  switches_within n i ending.TwoBranches used = tt
  switches_within n i ending.Cases used = each_kept (edge_to n i) (IsSwitchWithin values) (edge_within n i used) i.edges
  switches_within n i ending.Return used = tt
  switches_within n i ending.Unreachable used = tt

  switch_within : (f : Function) (n : ℕ) → Each (EachInBlock Used) f.blocks → IfSome (switch_to f n) (IsSwitchWithin values)
  switch_within f n used =
      first_of (IsSwitchWithin values) (flat_map (switches_from n) f.blocks)
      (each_flat (switches_from n) (EachInBlock Used) (IsSwitchWithin values) (λ b h. switches_within n b.terminator (ending_of b.terminator.op) h.1) f.blocks used)

  -- definitions
  chain_within : (kind : ResultKind) (vs : List ValueId) → Each (IsBelow values) vs → Each (IsBelow values) (chain_operands kind vs)
  chain_within NoneResult vs h = tt
  chain_within OwnedResult vs h = tt
  chain_within ScopeResult vs h = tt
  chain_within AddressResult vs h = h
  chain_within ForwardedResult vs h = h
  chain_within OperandResult vs h = h

  result_within : (d : Declarations) (i : Inst) → Used i → (k : ℕ) → Within values (result_definition d i k)
  result_within d i used k = chain_within (result_kind_of i.op) (map value_of i.operands) (operands_within values i.operands used.operands)

  results_within : (d : Declarations) (i : Inst) → Used i → Each (Within values) (result_definitions d i)
  results_within d i used = all_map (result_definition d i) (Within values) (result_within d i used) (range_with_len 0 (length i.results))

  arg_within : (d : Declarations) (entry : Bool) (s : Option Switched) (kind : ArgKind) (trivial : Bool) → IfSome s (IsSwitchWithin values) → Within values (arg_definition_by entry s kind trivial)
  arg_within d entry s annotation.Plain trivial h = tt
  arg_within d entry s annotation.Owned trivial h = tt
  arg_within d true s annotation.Guaranteed trivial h = tt
  arg_within d false s annotation.Guaranteed trivial h = each_map switch_operand (IsSwitchWithin values) (IsBelow values) (λ x below. below) (option_to_list s) (of_one (IsSwitchWithin values) s h)

  definitions_within : (d : Declarations) (f : Function) → ((n : ℕ) → IfSome (switch_to f n) (IsSwitchWithin values)) → Each (EachInBlock Used) f.blocks → Each (Within values) (definitions_of d f)
  definitions_within d f s used =
      each_row (arg_definitions d f) (result_definitions d) (Within values) Used
      (λ n xs. all_map (arg_definition d (is_zero n) (switch_to f n)) (Within values) (λ a. arg_within d (is_zero n) (switch_to f n) a.kind _ (s n)) xs)
      (results_within d) 0 f.blocks used

  -- renamings
  default_within : (s : Option Switched) → IfSome s (IsSwitchWithin values) → Each (IsBelow values) (default_operand s)
  default_within None h = tt
  default_within (Some s) h = at s.is_default
    where
      at : (b : Bool) → Each (IsBelow values) (cond b (s.operand ∷ []) [])
      at true = (h, tt)
      at false = tt

  renamings_within : (i : Inst) → Used i → Each (Within values) (result_renamings i)
  renamings_within i used = each_replicate (Within values) (length i.results) (renamed (cond (renames i.op) (map value_of i.operands) [])) (at (renames i.op))
    where
      at : (b : Bool) → Each (IsBelow values) (cond b (map value_of i.operands) [])
      at true = operands_within values i.operands used.operands
      at false = tt

  all_renamed_within : (f : Function) → ((n : ℕ) → IfSome (switch_to f n) (IsSwitchWithin values)) → Each (EachInBlock Used) f.blocks → Each (Within values) (renamings_of f)
  all_renamed_within f s used =
      each_row (arg_renamings f) result_renamings (Within values) Used
      (λ n xs. all_map (arg_renaming (switch_to f n)) (Within values) (λ a. default_within (switch_to f n) (s n)) xs)
      renamings_within 0 f.blocks used

-- operands that are all within are so wherever one looks
at_within : (n : ℕ) (defs : List Definition) → Each (Within n) defs → (k : ℕ) → Each (IsBelow n) (unwrap_or (slice_get (map (λ (d : Definition). d.operands) defs) k) [])
at_within n [] h k = at k
  where
    at : (k : ℕ) → Each (IsBelow n) (unwrap_or (slice_get (map (λ (d : Definition). d.operands) []) k) [])
    at zero = tt
    at (suc k) = tt
at_within n (d ∷ defs) h zero = h.0
at_within n (d ∷ defs) h (suc k) = at_within n defs h.1 k

in_range : (n : ℕ) (defs : List Definition) → length defs ≡ n → n ≤ 1024 → Each (Within n) defs → IsInRange defs
in_range n defs count few h = record {
  few = omega arith;
  inside = λ v lt. all_from_each (IsBelow (length defs)) (operands_at defs v) (at_within (length defs) defs (subst (λ k. Each (Within k) defs) (sym count) h) v.0);
}

pub are_in_range : AreInRange
are_in_range d m f numbered member =
    let count = length (values_of f.blocks) in
    let one = each_at (IsFunctionNumbered (length m.functions)) m.functions f numbered.numbering.functions member in
    let limits = each_at IsFunctionInLimits m.functions f numbered.limits.each member in
    let most : value_count f.blocks ≤ 1024 = limits.values in
    let few : count ≤ 1024 = omega arith in
    let switch = λ (n : ℕ). switch_within count (length f.blocks) (length m.functions) f n one.used in (
      in_range count (definitions_of d f) (are_of_values d f).0 few (definitions_within count (length f.blocks) (length m.functions) d f switch one.used),
      in_range count (renamings_of f) (are_of_values d f).1 few (all_renamed_within count (length f.blocks) (length m.functions) f switch one.used),
    )
