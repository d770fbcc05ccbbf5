-- Types that can be measured: no address stands in them, and they have no more leaves than the limit. So are those that a module mentions.
use Rattle.std.proofs.Common.{◌≡◌, ℕ, ◌≤◌, List, [], ◌∷◌, ◌++◌, map, refl, ap, ◌∙◌, subst, arith, Bool, true, false, Option, Some}
use Rattle.std.specs.Prelude.{◌&&◌, cond, nat_le, slice_get}
use Rattle.std.specs.List.{flat_map, list_all, list_any}
use Rattle.std.specs.Option.{option_to_list}
use Rattle.std.proofs.lemmas.Bool.{leb-true, not-false, or_parts}
use Rattle.numbered_form.specs.Insts.{insts_of}
use Rattle.numbered_form.specs.Lists.{Each}
use Rattle.numbered_form.specs.inner.Types.{HasArgType, HasBlockTypes, HasFunctionTypes, HasInstTypes, HasOperandType, HasSignatureTypes, IsGivenWritten}
use Rattle.numbered_form.specs.inner.Types.{IsPlacedType, IsPlainType}
use Rattle.numbered_form.specs.inner.Types.{is_placed_at, is_placed_type}
use Rattle.sil_ast.specs.declared.function.Block.{Block}
use Rattle.sil_ast.specs.declared.function.BlockArg.{BlockArg}
use Rattle.sil_ast.specs.declared.function.Function.{Function}
use Rattle.sil_ast.specs.declared.inst.Inst.{Inst}
use Rattle.sil_ast.specs.declared.module.Module.{Module}
use Rattle.sil_ast.specs.declared.operands.Operand.{Operand}
use Rattle.argument_conventions.specs.Arguments.{direct_results, is_direct}
use Rattle.sil_ast.specs.declared.signature.Given.{Given}
use Rattle.sil_ast.specs.declared.signature.Signature.{Signature}
use Rattle.sil_ast.specs.declared.type_name.TypeName.{TypeName, TypeName-F, out-TypeName}
use Rattle.sil_ast.specs.declared.type_name.TypeName.TheVariants as type
use Rattle.sil_rules.specs.declared.limits.TheConstants.{LEAVES}
use Rattle.sil_types_declarations.specs.declared.type_definitions.standing.Standing.{Standing}
use Rattle.sil_types_declarations.specs.declared.type_definitions.standing.Standing.TheVariants.{Unwritten, Value}
use Rattle.sil_types_declarations.specs.TypeDefinitions.Declarations.{declarations_of}
use Rattle.sil_types_declarations.specs.TypeDefinitions.Measures.{leaves_of}
use Rattle.sil_types_declarations.specs.TypeDefinitions.Mentions.{Mention, given_type, if_there, in_arg, in_block, in_decl, in_edge, in_function, in_inst, in_operand, in_param}
use Rattle.sil_types_declarations.specs.TypeDefinitions.Mentions.{in_result, in_signature, in_tuple}
use Rattle.sil_types_declarations.specs.TypeDefinitions.Mentions.{direct_types, mention, result_type, standing_in, target_at, target_of, together}
use Rattle.sil_types_declarations.specs.TypeDefinitions.Rules.{has_too_many_leaves}
use Rattle.holder_model_typing.specs.holder_model.RunTyping.Runnable.{IsRunnable}
use Rattle.holder_model_values.specs.RunValues.inner.Laws.{has_no_address, has_no_address_over}
use Rattle.holder_model_typing.proofs.RunTypingLaws.Declared.{each_append}
use Rattle.holder_model_typing.proofs.RunTypingLaws.Opened.{fold-Tuple}
use Rattle.holder_model_typing.proofs.RunTypingLaws.Rows.Finding.{each_at, if_some, none_in_any, none_in_both}
use Rattle.holder_model_typing.proofs.RunTypingLaws.RunnableTyped.{well_typed}
use Rattle.holder_model_typing.proofs.RunTypingLaws.Sizes.{plain_type, sizes}
use Rattle.count_machine_layouts.specs.FrameLayouts.inner.Sized.{HasSize}
use Rattle.count_machine_layouts.proofs.FrameLayouts.Targets.{leaves-target_of}

pub record Fits (m : Module) (t : TypeName) : Type 0 where
  pub plain : has_no_address t ≡ true
  pub within : leaves_of (declarations_of m) t ≤ LEAVES

pub has_size : (m : Module) → IsRunnable m → (t : TypeName) → Fits m t → HasSize (declarations_of m) t
has_size m r t fits = record { plain = fits.plain; within = fits.within; measured = sizes m (well_typed m r) t fits.plain }

-- a type with one `*` in front, or without, points to one without
pub placed_plain : (t : TypeName) → is_placed_type t ≡ true → has_no_address (target_of t) ≡ true
placed_plain t e = at (out-TypeName t) e
  where
    at : (x : TypeName-F TypeName) → is_placed_at t x ≡ true → has_no_address (target_at t x) ≡ true
    at (TypeName-F.Address inner) e = plain_type inner e
    at (TypeName-F.Int w) e = plain_type t e
    at (TypeName-F.Named name) e = plain_type t e
    at (TypeName-F.Optional inner) e = plain_type t e
    at (TypeName-F.Tuple parts) e = plain_type t e
    at (TypeName-F.Weak inner) e = plain_type t e
    at (TypeName-F.Unowned inner) e = plain_type t e

-- types put together

abbrev IsPlain : TypeName → Type 0
IsPlain t = has_no_address t ≡ true

pub all_plain : (ts : List TypeName) → Each IsPlain ts → list_all (λ b. b) (map has_no_address ts) ≡ true
all_plain [] h = refl
all_plain (t ∷ ts) h = ap (λ b. b && list_all (λ b. b) (map has_no_address ts)) h.0 ∙ all_plain ts h.1

pub tuple_plain : (ts : List TypeName) → Each IsPlain ts → has_no_address (type.Tuple ts) ≡ true
tuple_plain ts h = fold-Tuple Bool has_no_address_over ts ∙ all_plain ts h

pub together_plain : (ts : List TypeName) → Each IsPlain ts → has_no_address (together ts) ≡ true
together_plain [] h = tuple_plain [] h
together_plain (t ∷ []) h = h.0
together_plain (t ∷ u ∷ ts) h = tuple_plain (t ∷ u ∷ ts) h

direct_plain : (results : List Given) → Each IsGivenWritten results → Each IsPlain (direct_types results)
direct_plain [] h = tt
direct_plain (x ∷ xs) h = at (is_direct x) (direct_plain xs h.1)
  where
    at : (b : Bool) → Each IsPlain (direct_types xs) → Each IsPlain (map result_type (cond b (x ∷ direct_results xs) (direct_results xs)))
    at true rest = (plain_type x.ty h.0.ty.written, rest)
    at false rest = rest

module _ (m : Module) where
  abbrev pub overfull : Mention → Bool
  overfull = has_too_many_leaves (declarations_of m)

  pub not_overfull : (s : Standing) (t : TypeName) → overfull (mention s t) ≡ false → leaves_of (declarations_of m) t ≤ LEAVES
  not_overfull s t e = leb-true (leaves_of (declarations_of m) t) LEAVES (not-false (nat_le (leaves_of (declarations_of m) t) LEAVES) e)

  pub one_there : (s : Standing) (o : Option TypeName) (t : TypeName) → o ≡ Some t → list_any overfull (if_there s o) ≡ false
      → leaves_of (declarations_of m) t ≤ LEAVES
  one_there s o t e h = not_overfull s t (or_parts (overfull (mention s t)) false (subst (λ x. list_any overfull (if_there s x) ≡ false) e h)).0

  module _ (r : IsRunnable m) where
    mentioned : (list_any overfull (flat_map in_decl m.decls) ≡ false) × (list_any overfull (flat_map in_function m.functions) ≡ false)
    mentioned = none_in_both overfull (flat_map in_decl m.decls) (flat_map in_function m.functions) r.limits.leaves

    pub in_decls : list_any overfull (flat_map in_decl m.decls) ≡ false
    in_decls = mentioned.0

    module _ (n : ℕ) (f : Function) (there : slice_get m.functions n ≡ Some f) where
      types : HasFunctionTypes f
      types = each_at HasFunctionTypes m.functions n f r.numbered.types.functions there

      module _ (k : ℕ) (b : Block) (is_block : slice_get f.blocks k ≡ Some b) where
        in_this : (list_any overfull (map in_arg b.args) ≡ false) × (list_any overfull (flat_map in_inst (insts_of b)) ≡ false)
        in_this =
            none_in_both overfull (map in_arg b.args) (flat_map in_inst (insts_of b))
            (none_in_any overfull in_block f.blocks k b
            (none_in_both overfull (in_signature f.signature) (flat_map in_block f.blocks)
            (none_in_any overfull in_function m.functions n f mentioned.1 there)).1 is_block)

        block_types : HasBlockTypes b
        block_types = each_at HasBlockTypes f.blocks k b types.blocks is_block

        placed_fits : (t : TypeName) → IsPlacedType t → leaves_of (declarations_of m) t ≤ LEAVES → Fits m (target_of t)
        placed_fits t placed within =
            record { plain = placed_plain t placed.written; within = (let e = leaves-target_of (declarations_of m) t in omega arith) }

        pub args_fit : Each (λ (a : BlockArg). Fits m (target_of a.ty)) b.args
        args_fit = at b.args block_types.args in_this.0
          where
            at : (xs : List BlockArg) → Each HasArgType xs → list_any overfull (map in_arg xs) ≡ false → Each (λ (a : BlockArg). Fits m (target_of a.ty)) xs
            at [] h e = tt
            at (x ∷ xs) h e =
                let both = or_parts (overfull (in_arg x)) (list_any overfull (map in_arg xs)) e in
                (placed_fits x.ty h.0 (not_overfull Value x.ty both.0), at xs h.1 both.1)

        module _ (j : ℕ) (i : Inst) (is_inst : slice_get (insts_of b) j ≡ Some i) where
          inst_types : HasInstTypes i
          inst_types =
              each_at HasInstTypes (insts_of b) j i (each_append HasInstTypes b.insts (b.terminator ∷ []) block_types.insts.0 (block_types.insts.1, tt)) is_inst

          in_inst_none : list_any overfull (in_inst i) ≡ false
          in_inst_none = none_in_any overfull in_inst (insts_of b) j i in_this.1 is_inst

          abbrev type_part : List Mention
          type_part = if_there (standing_in i.op) i.ty

          abbrev signature_part : List Mention
          signature_part = flat_map in_signature (option_to_list i.signature)

          abbrev operand_part : List Mention
          operand_part = flat_map in_operand i.operands

          abbrev edge_part : List Mention
          edge_part = flat_map in_edge i.edges

          before_tuple : (list_any overfull (type_part ++ signature_part ++ operand_part ++ edge_part) ≡ false) × (list_any overfull (in_tuple i) ≡ false)
          before_tuple = none_in_both overfull (type_part ++ signature_part ++ operand_part ++ edge_part) (in_tuple i) in_inst_none

          before_edges : list_any overfull (type_part ++ signature_part ++ operand_part) ≡ false
          before_edges = (none_in_both overfull (type_part ++ signature_part ++ operand_part) edge_part before_tuple.0).0

          before_operands : (list_any overfull (type_part ++ signature_part) ≡ false) × (list_any overfull operand_part ≡ false)
          before_operands = none_in_both overfull (type_part ++ signature_part) operand_part before_edges

          before_signature : (list_any overfull type_part ≡ false) × (list_any overfull signature_part ≡ false)
          before_signature = none_in_both overfull type_part signature_part before_operands.0

          pub tuple_within : list_any overfull (in_tuple i) ≡ false
          tuple_within = before_tuple.1

          -- the type that stands for itself
          pub type_fits : (t : TypeName) → i.ty ≡ Some t → Fits m t
          type_fits t e =
              let placed : IsPlainType t = if_some IsPlainType i.ty t e inst_types.ty in
              record { plain = plain_type t placed.written; within = one_there (standing_in i.op) i.ty t e before_signature.0 }

          -- the type that is written at an operand
          pub operand_fits : (k : ℕ) (o : Operand) (t : TypeName) → slice_get i.operands k ≡ Some o → o.ty ≡ Some t → Fits m (target_of t)
          operand_fits k o t is e =
              placed_fits t (if_some IsPlacedType o.ty t e (each_at HasOperandType i.operands k o inst_types.operands is))
              (one_there Value o.ty t e (none_in_any overfull in_operand i.operands k o before_operands.1 is))

          -- what the signature gives
          given_within : (s : Signature) → i.signature ≡ Some s → leaves_of (declarations_of m) (given_type s) ≤ LEAVES
          given_within s e =
              let own : list_any overfull (in_signature s ++ []) ≡ false =
              subst (λ o. list_any overfull (flat_map in_signature (option_to_list o)) ≡ false) e before_signature.1 in
              let last = none_in_both overfull (map in_param s.params ++ map in_result s.results)
              (mention Unwritten (given_type s) ∷ []) (none_in_both overfull (in_signature s) [] own).0 in
              not_overfull Unwritten (given_type s) (or_parts (overfull (mention Unwritten (given_type s))) false last.1).0

          pub signature_fits : (s : Signature) → i.signature ≡ Some s → Fits m (given_type s)
          signature_fits s e =
              let written : HasSignatureTypes s = if_some HasSignatureTypes i.signature s e inst_types.signature in
              record { plain = together_plain (direct_types s.results) (direct_plain s.results written.results); within = given_within s e }
