-- The rows of results and of arguments in the tables by value.
use Rattle.std.proofs.Common.{◌≡◌, ℕ, zero, suc, ◌<◌, List, [], ◌∷◌, length, map, replicate, refl, sym, ap, ◌∙◌, arith, Option, Some, None}
use Rattle.std.specs.Prelude.{option_map, slice_get, unwrap_or}
use Rattle.std.specs.List.{range_with_len}
use Rattle.std.proofs.lemmas.List.{length-map, length-replicate}
use Rattle.std.proofs.lemmas.List.FromFn.{get_or-map-range_with_len, length-map-range_with_len}
use Rattle.std.proofs.lemmas.Option.{same_Some, slice_get-get_or, slice_get-map, slice_get_within}
use Rattle.argument_conventions.specs.Arguments.{arguments_of}
use Rattle.instruction_table.specs.Forms.{result_kind_of}
use Rattle.holder_model_typing.specs.memory_rules_accesses.Sources.{arg_sources, argument_source_or, result_source, result_sources}
use Rattle.holder_model_typing.specs.memory_rules_accesses.declared.source.Source.TheVariants.{Other}
use Rattle.numbered_form.specs.Numbering.{AreCountedFrom, value_of, values_of}
use Rattle.holder_model_typing.specs.ownership_kinds_chains.declared.ownership_chains.definition.Definition.{Definition}
use Rattle.holder_model_typing.specs.ownership_kinds_chains.declared.ownership_chains.definition.Origin.TheVariants as origin
use Rattle.holder_model_typing.specs.ownership_kinds_origins.Origins.{arg_definition, arg_definitions, defined, definitions_of, is_zero, result_definition, result_definitions}
use Rattle.holder_model_typing.specs.ownership_kinds_origins.Switched.{switch_to}
use Rattle.numbered_form.specs.PointChecks.Points.{IsAt}
use Rattle.holder_model_typing.proofs.RunTypingLaws.Rows.Forms.{functions_level}
use Rattle.holder_model_typing.proofs.RunTypingLaws.Rows.Tables.{row_at, told_of_args, told_of_results}
use Rattle.sil_ast.specs.Blocks.{args_in, args_of}
use Rattle.sil_ast.specs.declared.function.Block.{Block}
use Rattle.sil_ast.specs.declared.function.BlockArg.{BlockArg}
use Rattle.sil_ast.specs.declared.function.Function.{Function}
use Rattle.sil_ast.specs.declared.inst.Inst.{Inst}
use Rattle.sil_ast.specs.declared.place.ValueId.{ValueId}
use Rattle.holder_model_typing.specs.sil_types.Typing.RowTypes.{made_types}
use Rattle.holder_model_typing.specs.sil_types.Typing.Values.{arg_functions, arg_has, arg_types, result_functions, result_types}
use Rattle.holder_model_typing.specs.sil_types_declarations.TypeDefinitions.Declarations.{Declarations, declarations_of}
use Rattle.numbered_form.specs.ValueTables.Borrows.{arg_borrows, borrow_by, result_borrows}
use Rattle.numbered_form.specs.ValueTables.ValueRows.{value_rows}
use Rattle.numbered_form.specs.declared.value_tables.borrows.Borrow.TheVariants.{NoBorrow}
use Rattle.sil_verifier_values.specs.inner.Rows.{AreArgumentRows, AreResultRows, IsArgument, IsDefinedBy, IsResult, source_of_argument}
use Rattle.sil_verifier_values.proofs.Accepted.{counted}

-- ---- what stands at a place

of_place : {A : Type 0} (h : ℕ → A) (n k : ℕ) → k < n → slice_get (map h (range_with_len 0 n)) k ≡ Some (h k)
of_place h n k lt =
    let long : length (map h (range_with_len 0 n)) ≡ n = length-map-range_with_len h 0 n in
    slice_get-get_or (map h (range_with_len 0 n)) k (h k) (omega arith) ∙ ap (λ x. Some x) (get_or-map-range_with_len h 0 n k k (h k) lt (omega arith))

of_copies : {A : Type 0} (x : A) (n k : ℕ) → k < n → slice_get (replicate n x) k ≡ Some x
of_copies x zero k lt = absurd (omega arith)
of_copies x (suc n) zero lt = refl
of_copies x (suc n) (suc k) lt = of_copies x n k (omega arith)

-- a column of a table has what the row has there
in_column : {A B : Type 0} (g : A → B) (x : A) (rows : List A) (n : ℕ) → unwrap_or (slice_get (map g rows) n) (g x) ≡ g (unwrap_or (slice_get rows n) x)
in_column g x [] zero = refl
in_column g x [] (suc n) = refl
in_column g x (y ∷ rows) zero = refl
in_column g x (y ∷ rows) (suc n) = in_column g x rows n

got : {A B : Type 0} (g : A → B) (xs : List A) (ys : List B) (k : ℕ) (x : A) → map g xs ≡ ys → slice_get xs k ≡ Some x → slice_get ys k ≡ Some (g x)
got g xs ys k x e at = ap (λ zs. slice_get zs k) (sym e) ∙ slice_get-map g xs k ∙ ap (option_map g) at

-- ---- one table

module _ {A : Type 0} (args : ℕ → List BlockArg → List A) (results : Inst → List A)
    (of_args : (n : ℕ) (xs : List BlockArg) → length (args n xs) ≡ length xs) (of_results : (i : Inst) → length (results i) ≡ length i.results)
    (x : A) (f : Function) (counted : AreCountedFrom 0 (values_of f.blocks)) where
  of_result : (block index k : ℕ) (i : Inst) (v : ValueId) (y : A) → IsAt f block index i → slice_get i.results k ≡ Some v → slice_get (results i) k ≡ Some y
      → row_at x (value_rows args results f) v ≡ y
  of_result block index k i v y here at is =
      same_Some _ _
      (sym (got (row_at x (value_rows args results f)) i.results (results i) k v (told_of_results args results of_args of_results x f counted block index i here) at)
      ∙ is)

  of_argument : (b k : ℕ) (a : BlockArg) (y : A) → slice_get (args_of f b) k ≡ Some a → slice_get (args b (args_of f b)) k ≡ Some y
      → row_at x (value_rows args results f) a.value ≡ y
  of_argument b k a y at is = by (slice_get f.blocks b) refl at is
    where
      by : (o : Option Block) → slice_get f.blocks b ≡ o → slice_get (args_in o) k ≡ Some a → slice_get (args b (args_in o)) k ≡ Some y
          → row_at x (value_rows args results f) a.value ≡ y
      by None e there h = cc
      by (Some block) e there h =
          same_Some _ _
          (sym (got (row_at x (value_rows args results f)) (map value_of block.args) (args b block.args) k a.value
          (told_of_args args results of_args of_results x f counted b block e)
          (slice_get-map value_of block.args k ∙ ap (option_map value_of) there))
          ∙ h)

-- ---- all tables

module _ (d : Declarations) (f : Function) (counted : AreCountedFrom 0 (values_of f.blocks)) where
  abbrev none : Definition
  none = defined origin.Plain []

  as_defined : (v : ValueId) (y : Definition) → row_at none (definitions_of d f) v ≡ y → IsDefinedBy d f v y
  as_defined v y e = record {
    origin = in_column (λ (z : Definition). z.origin) none (definitions_of d f) v.0 ∙ ap (λ (z : Definition). z.origin) e;
    operands = in_column (λ (z : Definition). z.operands) none (definitions_of d f) v.0 ∙ ap (λ (z : Definition). z.operands) e;
  }

  defined_args : (n : ℕ) (xs : List BlockArg) → length (arg_definitions d f n xs) ≡ length xs
  defined_args n xs = length-map xs (arg_definition d (is_zero n) (switch_to f n))

  defined_results : (i : Inst) → length (result_definitions d i) ≡ length i.results
  defined_results i = length-map-range_with_len (result_definition d i) 0 (length i.results)

  typed_results : (i : Inst) → length (result_types d i) ≡ length i.results
  typed_results i = length-map-range_with_len (slice_get (made_types d i)) 0 (length i.results)

  sourced_args : (n : ℕ) (xs : List BlockArg) → length (arg_sources d f.signature n xs) ≡ length xs
  sourced_args zero xs = length-map-range_with_len (λ k. argument_source_or d (slice_get (arguments_of f.signature) k)) 0 (length xs)
  sourced_args (suc n) xs = length-replicate (length xs) Other

  result_row : (block index k : ℕ) (i : Inst) (v : ValueId) → IsAt f block index i → slice_get i.results k ≡ Some v → IsResult d f i k v
  result_row block index k i v here at =
      let lt : k < length i.results = slice_get_within i.results k v at in
      let long : length (result_functions i) ≡ length i.results = functions_level d f i.function i.results in
      record {
        defined = as_defined v (result_definition d i k)
            (of_result (arg_definitions d f) (result_definitions d) defined_args defined_results none f counted block index k i v (result_definition d i k) here at
            (of_place (result_definition d i) (length i.results) k lt));
        borrow = of_result arg_borrows result_borrows (λ n xs. length-replicate (length xs) NoBorrow) (λ j. length-replicate (length j.results) (borrow_by (result_kind_of j.op) j))
            NoBorrow f counted block index k i v (borrow_by (result_kind_of i.op) i) here at (of_copies (borrow_by (result_kind_of i.op) i) (length i.results) k lt);
        source = of_result (arg_sources d f.signature) (result_sources d) (sourced_args) (λ j. length-replicate (length j.results) (result_source d j))
            Other f counted block index k i v (result_source d i) here at (of_copies (result_source d i) (length i.results) k lt);
        typed = of_result arg_types (result_types d) (λ n xs. length-map xs arg_has) typed_results
            None f counted block index k i v (slice_get (made_types d i) k) here at (of_place (slice_get (made_types d i)) (length i.results) k lt);
        stands_for = of_result arg_functions result_functions (λ n xs. length-replicate (length xs) None) (λ j. functions_level d f j.function j.results)
            None f counted block index k i v (unwrap_or (slice_get (result_functions i) k) None) here at (there (result_functions i) k (omega arith));
      }
    where
      there : {A : Type 0} (xs : List (Option A)) (j : ℕ) → j < length xs → slice_get xs j ≡ Some (unwrap_or (slice_get xs j) None)
      there [] j lt = absurd (omega arith)
      there (y ∷ xs) zero lt = refl
      there (y ∷ xs) (suc j) lt = there xs j (omega arith)

  source_there : (b k : ℕ) (xs : List BlockArg) → k < length xs → slice_get (arg_sources d f.signature b xs) k ≡ Some (source_of_argument d f b k)
  source_there zero k xs lt = of_place (λ j. argument_source_or d (slice_get (arguments_of f.signature) j)) (length xs) k lt
  source_there (suc b) k xs lt = of_copies Other (length xs) k lt

  argument_row : (b k : ℕ) (a : BlockArg) → slice_get (args_of f b) k ≡ Some a → IsArgument d f b k a
  argument_row b k a at =
      let lt : k < length (args_of f b) = slice_get_within (args_of f b) k a at in
      record {
        defined = as_defined a.value (arg_definition d (is_zero b) (switch_to f b) a)
            (of_argument (arg_definitions d f) (result_definitions d) defined_args defined_results none f counted b k a (arg_definition d (is_zero b) (switch_to f b) a) at
            (slice_get-map (arg_definition d (is_zero b) (switch_to f b)) (args_of f b) k ∙ ap (option_map (arg_definition d (is_zero b) (switch_to f b))) at));
        borrow = of_argument arg_borrows result_borrows (λ n xs. length-replicate (length xs) NoBorrow) (λ j. length-replicate (length j.results) (borrow_by (result_kind_of j.op) j))
            NoBorrow f counted b k a NoBorrow at (of_copies NoBorrow (length (args_of f b)) k lt);
        source = of_argument (arg_sources d f.signature) (result_sources d) (sourced_args) (λ j. length-replicate (length j.results) (result_source d j))
            Other f counted b k a (source_of_argument d f b k) at (source_there b k (args_of f b) lt);
        typed = of_argument arg_types (result_types d) (λ n xs. length-map xs arg_has) typed_results
            None f counted b k a (Some a.ty) at (slice_get-map arg_has (args_of f b) k ∙ ap (option_map arg_has) at);
        stands_for = of_argument arg_functions result_functions (λ n xs. length-replicate (length xs) None) (λ j. functions_level d f j.function j.results)
            None f counted b k a None at (of_copies None (length (args_of f b)) k lt);
      }

pub result_rows : AreResultRows
result_rows m n f a block index k i v here at = result_row (declarations_of m) f (counted m n f a) block index k i v here at

pub argument_rows : AreArgumentRows
argument_rows m n f accepted b k a at = argument_row (declarations_of m) f (counted m n f accepted) b k a at
