-- An instruction of a function of a typed module that becomes an alike one breaks no rule there.
use Rattle.std.proofs.Common.{◌≡◌, ℕ, zero, suc, List, [], ◌++◌, length, map, refl, sym, ap, ap₂, ◌∙◌, Bool, true, false, cond, Option, Some, None}
use Rattle.std.specs.Prelude.{◌&&◌, ◌||◌, ◌==◌, count_by, find, is_some, not, option_and_then, option_map, slice_get, unwrap_or}
use Rattle.std.specs.List.{flat_map, list_all, list_any, range_with_len}
use Rattle.std.specs.Option.{option_to_list}
use Rattle.std.proofs.lemmas.Bool.{or_left}
use Rattle.instruction_table.specs.Forms.{results_of}
use Rattle.instruction_table.specs.declared.entries.Results.{Results}
use Rattle.instruction_table.specs.declared.op.Op.{Op}
use Rattle.instruction_table.specs.declared.op.Op.TheVariants as op
use Rattle.sil_ast.specs.Blocks.{args_in, args_of}
use Rattle.sil_ast.specs.declared.function.Block.{Block}
use Rattle.sil_ast.specs.declared.function.BlockArg.{BlockArg}
use Rattle.sil_ast.specs.declared.function.Form.{Form}
use Rattle.sil_ast.specs.declared.function.Form.TheVariants.{Ossa, Lowered, External}
use Rattle.sil_ast.specs.declared.function.Function.{Function}
use Rattle.sil_ast.specs.declared.inst.Edge.{Edge}
use Rattle.sil_ast.specs.declared.inst.Inst.{Inst}
use Rattle.sil_ast.specs.declared.module.Module.{Module}
use Rattle.sil_ast.specs.declared.place.FuncId.{FuncId}
use Rattle.sil_ast.specs.declared.type_name.TypeName.{TypeName}
use Rattle.sil_rules.specs.declared.rule.Rule.{Rule}
use Rattle.sil_types.specs.Typing.EdgeRules.{goes_to_entry, has_wrong_edge_arguments, have_wrong_arguments_by, is_to_entry}
use Rattle.sil_types.specs.Typing.FormRules.{first_form, form_of, has_body, has_wrong_qualifier, is_annotated, is_annotated_at, is_lowered, is_of_form}
use Rattle.sil_types.specs.Typing.FormRules.{is_of_other_form}
use Rattle.sil_types.specs.Typing.OperandTypes.{are_as_asked, are_as_written, edge_is_as_written, has_operand_types}
use Rattle.sil_types.specs.Typing.ResultCounts.{is_count_by}
use Rattle.sil_types.specs.Typing.RowTypes.{all_written, row_types, written}
use Rattle.sil_types.specs.Typing.Same.{are_same_types}
use Rattle.sil_types.specs.Typing.SignatureRules.{callee, calls_no_function, calls_none_by, differs_by, differs_from_signature, is_signature_of, signature_of}
use Rattle.sil_types.specs.Typing.SwitchRules.{case_of_edge, edges_of, edges_of_block, has_case, has_wrong_cases, has_wrong_cases_by, is_default_argument, is_to}
use Rattle.sil_types.specs.Typing.SwitchRules.{leaves_out_case, names_other_case, repeats_case, switches_wrongly}
use Rattle.sil_types.specs.Typing.Typed.{BreaksAtPoint, callee as no_callee, edge_arguments, entry_has_predecessor, mixed_forms, operand_type, qualifier, result_count}
use Rattle.sil_types.specs.Typing.Typed.{signature, switch_cases}
use Rattle.sil_types.specs.Typing.Values.{arg_functions, arg_type, arg_types, functions_by, result_functions, result_types, value_functions, value_types}
use Rattle.sil_types_declarations.specs.TypeDefinitions.Declarations.{Declarations, declarations_of}
use Rattle.copy_pairing_acceptance.proofs.RewrittenTypingLaws.Alike.{Alike, Blocks, Functions, block, changed, function, kept, no_block, no_function, same, same_of_both, told_of_blocks}

module _ (m : Module) (gs : List Function) (alike : Functions (declarations_of m) m.functions gs) where
  abbrev next : Module
  next = record m { functions = gs }

  abbrev d : Declarations
  d = declarations_of m

  -- what the blocks don't tell of a function is the same of the function with this number
  pub same_found : {A : Type 0} (h : Option Function → A) → ((f : Function) (bs : List Block) → h (Some (record f { blocks = bs })) ≡ h (Some f)) → (k : ℕ)
      → h (slice_get gs k) ≡ h (slice_get m.functions k)
  same_found {A} h e k = at m.functions gs alike k
    where
      at : (fs gs : List Function) → Functions d fs gs → (k : ℕ) → h (slice_get gs k) ≡ h (slice_get fs k)
      at _ _ no_function k = refl
      at _ _ (function {f = f} {bs = bs} r rest) zero = e f bs
      at _ _ (function {fs = fs} {gs = hs} r rest) (suc k) = at fs hs rest k

  same_signature : (o : Option FuncId) → option_and_then (signature_of next) o ≡ option_and_then (signature_of m) o
  same_signature None = refl
  same_signature (Some k) = same_found (option_map (λ g. g.signature)) (λ f bs. refl) k.0

  pub same_first : first_form next ≡ first_form m
  same_first = at m.functions gs alike
    where
      either : (b : Bool) (f : Function) (bs : List Block) (rest other : Option Function) → option_map form_of rest ≡ option_map form_of other
          → option_map form_of (cond b (Some (record f { blocks = bs })) rest) ≡ option_map form_of (cond b (Some f) other)
      either true f bs rest other e = refl
      either false f bs rest other e = e

      at : (fs gs : List Function) → Functions d fs gs → option_map form_of (find has_body gs) ≡ option_map form_of (find has_body fs)
      at _ _ no_function = refl
      at _ _ (function {f = f} {bs = bs} {fs = fs} {gs = hs} r rest) = either (has_body f) f bs (find has_body hs) (find has_body fs) (at fs hs rest)

  module _ (f : Function) (bs : List Block) (r : Blocks d f.blocks bs) where
    abbrev g : Function
    g = record f { blocks = bs }

    same_types : value_types d g ≡ value_types d f
    same_types = told_of_blocks d (result_types d) stays (λ i e. ap (λ rs. map (slice_get (unwrap_or (row_types d i) [])) (range_with_len 0 (length rs))) e) arg_types 0 f.blocks bs r
      where
        stays : (i j : Inst) → Alike d i j → result_types d j ≡ result_types d i
        stays _ _ (same i) = refl
        stays _ _ (changed i o p is c row) = ap (λ given. map (slice_get (unwrap_or given [])) (range_with_len 0 (length i.results))) row

    same_functions : value_functions g ≡ value_functions f
    same_functions =
        told_of_blocks d result_functions (same_of_both d result_functions (λ i. refl) (λ i. refl) (λ i. refl)) (λ i e. ap (functions_by i.function) e) arg_functions 0
        f.blocks bs r

    same_args_at : (n : ℕ) → args_of g n ≡ args_of f n
    same_args_at n = at f.blocks bs r n
      where
        at : (bs cs : List Block) → Blocks d bs cs → (n : ℕ) → args_in (slice_get cs n) ≡ args_in (slice_get bs n)
        at _ _ no_block n = refl
        at _ _ (block {b = b} {is = is} x rest) zero = refl
        at _ _ (block {bs = bs} {cs = cs} x rest) (suc n) = at bs cs rest n

    pub same_args : args_of g ≡ args_of f
    same_args = λ i. λ n. same_args_at n i

    same_edges : edges_of g ≡ edges_of f
    same_edges = at f.blocks bs r
      where
        at : (bs cs : List Block) → Blocks d bs cs → flat_map edges_of_block cs ≡ flat_map edges_of_block bs
        at _ _ no_block = refl
        at _ _ (block {b = b} {is = is} {bs = bs} {cs = cs} x rest) = ap (λ es. b.terminator.edges ++ es) (at bs cs rest)

    -- ---- at an instruction, what is asked of it in either function

    edges_alike : (j : Inst) → has_wrong_edge_arguments g j ≡ has_wrong_edge_arguments f j
    unfolding has_wrong_edge_arguments
    edges_alike j = at j.op
      where
        fitting : not (list_all (λ e. are_same_types (all_written e.args) (map arg_type (args_of g e.block.0))) j.edges)
            ≡ not (list_all (λ e. are_same_types (all_written e.args) (map arg_type (args_of f e.block.0))) j.edges)
        fitting = ap (λ (args : ℕ → List BlockArg). not (list_all (λ e. are_same_types (all_written e.args) (map arg_type (args e.block.0))) j.edges)) same_args

        at : (o : Op) → have_wrong_arguments_by o g j.edges ≡ have_wrong_arguments_by o f j.edges
        at op.Br = fitting
        at op.CondBr = fitting
        at _ = refl

    signatures_alike : (j : Inst) → differs_from_signature next g (value_functions g) j ≡ differs_from_signature m f (value_functions f) j
    unfolding differs_from_signature
    signatures_alike j = ap (λ functions. differs_by j.op next g functions j) same_functions ∙ at j.op
      where
        at : (o : Op) → differs_by o next g (value_functions f) j ≡ differs_by o m f (value_functions f) j
        at op.FunctionRef = ap (λ t. not (list_all (is_signature_of t) (option_to_list j.signature))) (same_signature j.function)
        at op.Apply = ap (λ t. not (list_all (is_signature_of t) (option_to_list j.signature))) (same_signature (callee (value_functions f) j))
        at _ = refl

    switches_alike : (es : List Edge) (o : Option TypeName) → switches_wrongly d g es o ≡ switches_wrongly d f es o
    switches_alike es None = refl
    switches_alike es (Some t) =
        ap₂ (λ (all : List Edge) (args : ℕ → List BlockArg).
        names_other_case d t es || repeats_case d t es || leaves_out_case d t es || not (list_all (λ e. count_by (is_to e.block.0) all == 1) es)
        || not (list_all (λ e. list_all (λ p. are_same_types (map arg_type (args e.block.0)) (option_to_list p.ty)) (option_to_list (case_of_edge d t e))) es)
        || not (list_all (λ e. has_case e || is_default_argument f.form t (args e.block.0)) es)) same_edges same_args

    cases_alike : (j : Inst) → has_wrong_cases d g j ≡ has_wrong_cases d f j
    cases_alike j = at j.op
      where
        at : (o : Op) → has_wrong_cases_by o d g j ≡ has_wrong_cases_by o d f j
        at op.SwitchEnum = switches_alike j.edges (written 0 j)
        at _ = refl

    -- ---- of two instructions that are alike

    module _ (i j : Inst) (a : Alike d i j) where
      operands_same : has_operand_types d (value_types d g) j ≡ has_operand_types d (value_types d f) i
      operands_same = ap (λ types. has_operand_types d types j) same_types ∙ at i j a
        where
          at : (i j : Inst) → Alike d i j → has_operand_types d (value_types d f) j ≡ has_operand_types d (value_types d f) i
          at _ _ (same i) = refl
          at _ _ (changed i o p is c row) =
              let types = value_types d f in
              ap₂ (λ given asked. is_some given && are_as_written types i.operands && list_all (edge_is_as_written types) i.edges && asked) row
              (same_of_both d (are_as_asked types) (λ i. refl) (λ i. refl) (λ i. refl) i _ (changed i o p is c row))

      counts_same : is_count_by (results_of j.op) (row_types d j) (length j.results) ≡ is_count_by (results_of i.op) (row_types d i) (length i.results)
      counts_same = at i j a
        where
          at : (i j : Inst) → Alike d i j → is_count_by (results_of j.op) (row_types d j) (length j.results) ≡ is_count_by (results_of i.op) (row_types d i) (length i.results)
          at _ _ (same i) = refl
          at _ _ (changed i o p is c row) =
              ap₂ (λ (results : Results) given. is_count_by results given (length i.results)) (sym (kept results_of refl refl refl i o p is c)) row

      edges_same : has_wrong_edge_arguments g j ≡ has_wrong_edge_arguments f i
      unfolding has_wrong_edge_arguments
      edges_same = edges_alike j ∙ same_of_both d (λ i. have_wrong_arguments_by i.op f i.edges) (λ i. refl) (λ i. refl) (λ i. refl) i j a

      calls_same : calls_no_function (value_functions g) j ≡ calls_no_function (value_functions f) i
      unfolding calls_no_function
      calls_same =
          ap (λ functions. calls_none_by j.op functions j) same_functions
          ∙ same_of_both d (λ i. calls_none_by i.op (value_functions f) i) (λ i. refl) (λ i. refl) (λ i. refl) i j a

      signatures_same : differs_from_signature next g (value_functions g) j ≡ differs_from_signature m f (value_functions f) i
      unfolding differs_from_signature
      signatures_same = signatures_alike j ∙ same_of_both d (λ i. differs_by i.op m f (value_functions f) i) (λ i. refl) (λ i. refl) (λ i. refl) i j a

      cases_same : has_wrong_cases d g j ≡ has_wrong_cases d f i
      cases_same = cases_alike j ∙ same_of_both d (has_wrong_cases d f) (λ i. refl) (λ i. refl) (λ i. refl) i j a

      entry_same : goes_to_entry j ≡ goes_to_entry i
      unfolding goes_to_entry
      entry_same = same_of_both d (λ i. list_any is_to_entry i.edges) (λ i. refl) (λ i. refl) (λ i. refl) i j a

      words_same : has_wrong_qualifier d g j ≡ has_wrong_qualifier d f i
      words_same = same_of_both d (has_wrong_qualifier d f) (λ i. refl) (λ i. refl) (λ i. refl) i j a

      form_same : (form : Form) → is_of_form form j ≡ is_of_form form i
      form_same Ossa = same_of_both d (is_of_form Ossa) (λ i. refl) (λ i. refl) (λ i. refl) i j a
      form_same Lowered = same_of_both d (is_of_form Lowered) (λ i. refl) (λ i. refl) (λ i. refl) i j a
      form_same External = same_of_both d (is_of_form External) (λ i. refl) (λ i. refl) (λ i. refl) i j a

      first_of_either : (x y : Bool) → y ≡ false → (x || y) ≡ true → x ≡ true
      first_of_either true y e h = refl
      first_of_either false y e h = absurd (let wrong : false ≡ true = sym e ∙ h in cc)

      forms_same : is_lowered f.form ≡ false → (b k c l : ℕ) → is_of_other_form g b k j ≡ true → is_of_other_form f c l i ≡ true
      forms_same owned b k c l e =
          let plain : is_annotated_at g b k ≡ false = ap (λ x. x && (k == 0) && list_any is_annotated (args_of g b)) owned in
          let wrong : not (is_of_form f.form j) ≡ true = first_of_either (not (is_of_form f.form j)) (is_annotated_at g b k) plain e in
          or_left (not (is_of_form f.form i)) (is_annotated_at f c l) (sym (ap not (form_same f.form)) ∙ wrong)

      -- a rule that is broken in the second function is broken in the first
      pub breaks_before : is_lowered f.form ≡ false → (b k c l : ℕ) (x : Rule) → BreaksAtPoint next g b k j x → BreaksAtPoint m f c l i x
      breaks_before owned b k c l _ (operand_type e) = operand_type (sym (ap not operands_same) ∙ e)
      breaks_before owned b k c l _ (result_count e) = result_count (sym (ap not counts_same) ∙ e)
      breaks_before owned b k c l _ (edge_arguments e) = edge_arguments (sym edges_same ∙ e)
      breaks_before owned b k c l _ (no_callee e) = no_callee (sym calls_same ∙ e)
      breaks_before owned b k c l _ (signature e) = signature (sym signatures_same ∙ e)
      breaks_before owned b k c l _ (mixed_forms e) = mixed_forms (forms_same owned b k c l e)
      breaks_before owned b k c l _ (switch_cases e) = switch_cases (sym cases_same ∙ e)
      breaks_before owned b k c l _ (entry_has_predecessor e) = entry_has_predecessor (sym entry_same ∙ e)
      breaks_before owned b k c l _ (qualifier e) = qualifier (sym words_same ∙ e)
