-- A module stays in numbered form where its functions become alike ones.
use Rattle.std.proofs.Common.{◌≡◌, ℕ, ◌+◌, ◌≤◌, List, [], ◌∷◌, ◌++◌, length, length-append, map, refl, sym, ap, ap₂, subst, le_trans, arith, cond}
use Rattle.std.specs.Prelude.{◌↔◌, sum_by}
use Rattle.std.proofs.lemmas.List.Sums.{sum_by-append, sum_by-cons}
use Rattle.numbered_form.specs.Insts.{EachInBlock, EachInFunction, insts_in}
use Rattle.numbered_form.specs.Lists.{Each}
use Rattle.numbered_form.specs.Names.{AreNamesOnce, AreNamesSpelled, AreOnce, IsFunctionSpelled, IsInstSpelled, function_name}
use Rattle.numbered_form.specs.Numbering.{AreCountedFrom, AreNumbered, IsFunctionNumbered, IsInstInRange, IsVtableInRange, results_of, value_of, values_of}
use Rattle.numbered_form.specs.inner.Functions.{IsFormed}
use Rattle.numbered_form.specs.inner.Limits.{AreLimitsKept, IsBlockInLimits, IsFunctionInLimits, IsInstInLimits, inst_takes_value, value_count}
use Rattle.numbered_form.specs.inner.Literals.{HasLiterals}
use Rattle.numbered_form.specs.inner.NumberedForm.{IsNumbered}
use Rattle.numbered_form.specs.inner.Parts.{BlockHasParts, FunctionHasParts, IsInside}
use Rattle.numbered_form.specs.inner.Types.{AreTypesWritten, HasBlockTypes, HasFunctionTypes, HasInstTypes}
use Rattle.sil_ast.specs.declared.function.Block.{Block}
use Rattle.sil_ast.specs.declared.function.Function.{Function}
use Rattle.sil_ast.specs.declared.inst.Inst.{Inst}
use Rattle.sil_ast.specs.declared.module.Module.{Module}
use Rattle.sil_rules.specs.declared.limits.TheConstants.{BLOCKS, FUNCTIONS}
use Rattle.sil_types_declarations.specs.TypeDefinitions.Declarations.{Declarations}
use Rattle.copy_pairing_acceptance.proofs.RewrittenTypingLaws.Alike.{Alike, Blocks, Functions, Rest, as_many_blocks, as_many_functions, block, changed, each_block, each_function}
use Rattle.copy_pairing_acceptance.proofs.RewrittenTypingLaws.Alike.{each_in_blocks, each_inst, goes, keeps, mapped_alike, no_block, nothing, same, same_of_both, told_of_insts}
use Rattle.copy_pairing_acceptance.proofs.RewrittenTypingLaws.Rows.{new_inside, new_literals}

module _ (d : Declarations) where
  -- ---- what holds of an instruction

  range_stays : (values blocks functions : ℕ) (i j : Inst) → Alike d i j → IsInstInRange values blocks functions i → IsInstInRange values blocks functions j
  range_stays values blocks functions _ _ (same i) h = h
  range_stays values blocks functions _ _ (changed i o p is c row) h = record { operands = h.operands; edges = h.edges; function = h.function }

  inside_stays : (i j : Inst) → Alike d i j → IsInside i → IsInside j
  inside_stays _ _ (same i) h = h
  inside_stays _ _ (changed i o p is c row) h = new_inside i o p is c h

  literals_stay : (i j : Inst) → Alike d i j → HasLiterals i → HasLiterals j
  literals_stay _ _ (same i) h = h
  literals_stay _ _ (changed i o p is c row) h = new_literals i o p is c h

  spelled_stays : (i j : Inst) → Alike d i j → IsInstSpelled i → IsInstSpelled j
  spelled_stays _ _ (same i) h = h
  spelled_stays _ _ (changed i o p is c row) h = record { member = h.member; text = h.text; debug = h.debug; edges = h.edges }

  types_stay : (i j : Inst) → Alike d i j → HasInstTypes i → HasInstTypes j
  types_stay _ _ (same i) h = h
  types_stay _ _ (changed i o p is c row) h = record { ty = h.ty; signature = h.signature; operands = h.operands; edges = h.edges }

  limits_stay : (i j : Inst) → Alike d i j → IsInstInLimits i → IsInstInLimits j
  limits_stay _ _ (same i) h = h
  limits_stay _ _ (changed i o p is c row) h = record { operands = h.operands; results = h.results; signature = h.signature; edges = h.edges }

  results_stay : (i j : Inst) → Alike d i j → results_of j ≡ results_of i
  results_stay = same_of_both d results_of (λ i. refl) (λ i. refl) (λ i. refl)

  -- ---- values, and how many there are of what

  pub same_values : (bs cs : List Block) → Blocks d bs cs → values_of cs ≡ values_of bs
  same_values _ _ no_block = refl
  same_values _ _ (block {b = b} {is = is} {bs = bs} {cs = cs} r rest) =
      ap₂ (λ x y. (map value_of b.args ++ x) ++ y) (told_of_insts d results_of results_stay (λ i e. e) b.insts is b.terminator r) (same_values bs cs rest)

  module _ (size : List Inst → ℕ) (weight : Inst → ℕ) (one_more : (x : Inst) (xs : List Inst) → size (x ∷ xs) ≡ weight x + size xs)
      (of_both : (xs ys : List Inst) → size (xs ++ ys) ≡ size xs + size ys) (stays : (i j : Inst) → Alike d i j → weight j ≡ weight i) where
    fewer_insts : (is js : List Inst) (t : Inst) → Rest d is js → size (js ++ t ∷ []) ≤ size (is ++ t ∷ [])
    fewer_insts _ _ t nothing = omega arith
    fewer_insts _ _ t (keeps {i = i} {j = j} {is = is} {js = js} a r) =
        omega (arith, one_more j (js ++ t ∷ []), one_more i (is ++ t ∷ []), stays i j a, fewer_insts is js t r)
    fewer_insts _ _ t (goes {i = i} {is = is} {js = js} e r) = omega (arith, one_more i (is ++ t ∷ []), fewer_insts is js t r)

    fewer_in_blocks : (bs cs : List Block) → Blocks d bs cs → size (insts_in cs) ≤ size (insts_in bs)
    fewer_in_blocks _ _ no_block = omega arith
    fewer_in_blocks _ _ (block {b = b} {is = is} {bs = bs} {cs = cs} r rest) =
        omega (arith, of_both (is ++ b.terminator ∷ []) (insts_in cs), of_both (b.insts ++ b.terminator ∷ []) (insts_in bs), fewer_insts b.insts is b.terminator r, fewer_in_blocks bs cs rest)

  fewer_of_all : (bs cs : List Block) → Blocks d bs cs → length (insts_in cs) ≤ length (insts_in bs)
  fewer_of_all = fewer_in_blocks length (λ i. 1) (λ x xs. omega arith) length-append (λ i j a. refl)

  counted : Inst → ℕ
  counted i = cond (inst_takes_value i) 1 0

  fewer_values : (bs cs : List Block) → Blocks d bs cs → value_count cs ≤ value_count bs
  unfolding counted
  fewer_values bs cs r =
      omega (
        arith,
        ap length (same_values bs cs r),
        fewer_in_blocks (sum_by counted) counted (sum_by-cons counted) (sum_by-append counted)
            (same_of_both d counted (λ i. refl) (λ i. refl) (λ i. refl)) bs cs r,
      )

  -- ---- what holds of a function

  function_numbered : (functions : ℕ) (f : Function) (bs : List Block) → Blocks d f.blocks bs → IsFunctionNumbered functions f
      → IsFunctionNumbered functions (record f { blocks = bs })
  function_numbered functions f bs r h =
      let values = same_values f.blocks bs r in
      let used = each_in_blocks d (IsInstInRange (length (values_of f.blocks)) (length f.blocks) functions)
      (IsInstInRange (length (values_of f.blocks)) (length f.blocks) functions) (range_stays (length (values_of f.blocks)) (length f.blocks) functions) f.blocks bs r h.used in
      record {
        values = subst (AreCountedFrom 0) (sym values) h.values;
        used = subst (λ n. Each (EachInBlock (IsInstInRange (length (values_of bs)) n functions)) bs) (sym (as_many_blocks d f.blocks bs r))
            (subst (λ vs. Each (EachInBlock (IsInstInRange (length vs) (length f.blocks) functions)) bs) (sym values) used);
      }

  function_parts : (f : Function) (bs : List Block) → Blocks d f.blocks bs → FunctionHasParts f → FunctionHasParts (record f { blocks = bs })
  function_parts f bs r h =
      each_block d BlockHasParts BlockHasParts
      (λ b is rest parts. record { insts = each_inst d IsInside IsInside inside_stays b.insts is rest parts.insts; terminator = parts.terminator }) f.blocks bs r h

  each_in_function : (P : Inst → Type 0) → ((i j : Inst) → Alike d i j → P i → P j) → (f : Function) (bs : List Block) → Blocks d f.blocks bs
      → EachInFunction P f → EachInFunction P (record f { blocks = bs })
  each_in_function P stays f bs r h = each_in_blocks d P P stays f.blocks bs r h

  function_types : (f : Function) (bs : List Block) → Blocks d f.blocks bs → HasFunctionTypes f → HasFunctionTypes (record f { blocks = bs })
  function_types f bs r h = record {
    signature = h.signature;
    blocks = each_block d HasBlockTypes HasBlockTypes
        (λ b is rest types. record { args = types.args; insts = (each_inst d HasInstTypes HasInstTypes types_stay b.insts is rest types.insts.0, types.insts.1) })
        f.blocks bs r h.blocks;
  }

  no_blocks : (bs cs : List Block) → Blocks d bs cs → (bs ≡ []) ↔ (cs ≡ [])
  no_blocks _ _ no_block = (λ e. refl, λ e. refl)
  no_blocks _ _ (block {b = b} {is = is} {bs = bs} {cs = cs} r rest) = (λ e. absurd (cc), λ e. absurd (cc))

  function_formed : (f : Function) (bs : List Block) → Blocks d f.blocks bs → IsFormed f → IsFormed (record f { blocks = bs })
  function_formed f bs r h =
      let both = no_blocks f.blocks bs r in
      record { attributes = h.attributes; external = (λ e. both.0 (h.external.0 e), λ e. h.external.1 (both.1 e)) }

  function_limits : (f : Function) (bs : List Block) → Blocks d f.blocks bs → IsFunctionInLimits f → IsFunctionInLimits (record f { blocks = bs })
  function_limits f bs r h = record {
    attributes = h.attributes;
    signature = h.signature;
    blocks = subst (λ n. n ≤ BLOCKS) (sym (as_many_blocks d f.blocks bs r)) h.blocks;
    insts = le_trans (fewer_of_all f.blocks bs r) h.insts;
    values = le_trans (fewer_values f.blocks bs r) h.values;
    each = each_block d IsBlockInLimits IsBlockInLimits
        (λ b is rest limits. record { args = limits.args; insts = (each_inst d IsInstInLimits IsInstInLimits limits_stay b.insts is rest limits.insts.0, limits.insts.1) })
        f.blocks bs r h.each;
  }

  function_spelled : (f : Function) (bs : List Block) → Blocks d f.blocks bs → IsFunctionSpelled f → IsFunctionSpelled (record f { blocks = bs })
  function_spelled f bs r h = record { name = h.name; attributes = h.attributes }

  -- ---- the module

  module _ (m : Module) (gs : List Function) (alike : Functions d m.functions gs) (h : IsNumbered m) where
    abbrev next : Module
    next = record m { functions = gs }

    as_many : length gs ≡ length m.functions
    as_many = as_many_functions d m.functions gs alike

    numbering : AreNumbered next
    numbering = record {
      functions = subst (λ n. Each (IsFunctionNumbered n) gs) (sym as_many)
          (each_function d (IsFunctionNumbered (length m.functions)) (IsFunctionNumbered (length m.functions)) (function_numbered (length m.functions)) m.functions gs alike
          h.numbering.functions);
      vtables = subst (λ n. Each (IsVtableInRange n) m.vtables) (sym as_many) h.numbering.vtables;
    }

    names : AreNamesSpelled next
    names = record {
      declarations = h.names.declarations;
      functions = each_function d IsFunctionSpelled IsFunctionSpelled function_spelled m.functions gs alike h.names.functions;
      vtables = h.names.vtables;
      insts = each_function d (EachInFunction IsInstSpelled) (EachInFunction IsInstSpelled) (each_in_function IsInstSpelled spelled_stays) m.functions gs alike
          h.names.insts;
    }

    once : AreNamesOnce next
    once = record {
      declarations = h.once.declarations;
      members = h.once.members;
      functions = subst AreOnce (sym (mapped_alike d function_name (λ f bs. refl) m.functions gs alike)) h.once.functions;
      vtables = h.once.vtables;
    }

    types : AreTypesWritten next
    types = record {
      declarations = h.types.declarations;
      functions = each_function d HasFunctionTypes HasFunctionTypes function_types m.functions gs alike h.types.functions;
    }

    limits : AreLimitsKept next
    limits = record {
      declarations = h.limits.declarations;
      members = h.limits.members;
      functions = subst (λ n. n ≤ FUNCTIONS) (sym as_many) h.limits.functions;
      each = each_function d IsFunctionInLimits IsFunctionInLimits function_limits m.functions gs alike h.limits.each;
    }

    pub stays_numbered : IsNumbered next
    stays_numbered = record {
      numbering = numbering;
      parts = each_function d FunctionHasParts FunctionHasParts function_parts m.functions gs alike h.parts;
      literals = each_function d (EachInFunction HasLiterals) (EachInFunction HasLiterals) (each_in_function HasLiterals literals_stay) m.functions gs alike h.literals;
      fields = h.fields;
      names = names;
      once = once;
      types = types;
      functions = each_function d IsFormed IsFormed function_formed m.functions gs alike h.functions;
      limits = limits;
    }
