-- What a rewriting makes of a module's functions is alike.
use Rattle.std.proofs.Common.{◌≡◌, ℕ, zero, suc, ◌<◌, List, [], ◌∷◌, map, refl, sym, ap, ◌∙◌, subst, arith, Bool, true, false, cond, Option, Some, None}
use Rattle.std.specs.Prelude.{◌&&◌, if◌then◌else◌, is_some, length, not, remove, slice_get}
use Rattle.std.specs.List.{list_all}
use Rattle.std.proofs.lemmas.Bool.{and_parts, eqb-true}
use Rattle.std.proofs.lemmas.List.{nil_from_length}
use Rattle.std.proofs.lemmas.Option.{same_Some}
use Rattle.copy_pairing_model.specs.Copies.{IsCopy, is_op}
use Rattle.copy_pairing_model.specs.Optimised.{Rewrites, facts_of, lends, moves}
use Rattle.copy_pairing_model.specs.Removable.{IsMovable}
use Rattle.copy_pairing_model.specs.Rewritten.{changed_at, lent, lent_block, lent_inst, makes, moved, moved_block, takes, with_op}
use Rattle.instruction_table.proofs.Numbers.{stands_at}
use Rattle.instruction_table.specs.Forms.{number_of, results_of}
use Rattle.instruction_table.specs.declared.op.Op.{Op}
use Rattle.instruction_table.specs.declared.op.Op.TheVariants as op
use Rattle.instruction_table.specs.declared.op.TheConstants.{OPS}
use Rattle.sil_cfg_items.specs.Parts.{inst_at, inst_in}
use Rattle.numbered_form.specs.PointChecks.Points.{IsAt}
use Rattle.sil_ast.specs.declared.function.Block.{Block}
use Rattle.sil_ast.specs.declared.function.Function.{Function}
use Rattle.sil_ast.specs.declared.inst.Inst.{Inst}
use Rattle.sil_ast.specs.declared.module.Module.{Module}
use Rattle.sil_ast.specs.declared.place.PointId.{PointId}
use Rattle.sil_ast.specs.declared.place.ValueId.{ValueId}
use Rattle.sil_ast.specs.declared.type_name.TypeName.{TypeName}
use Rattle.sil_rules.specs.declared.rule.Rule.TheVariants as rule
use Rattle.sil_types.specs.Typing.OperandTypes.{are_as_asked, are_as_written, edge_is_as_written, has_operand_types}
use Rattle.sil_types.specs.Typing.ResultCounts.{is_count_by}
use Rattle.sil_types.specs.Typing.RowTypes.{given_by, gives, keeps_row, row_types, written}
use Rattle.sil_types.specs.Typing.Shapes.{is_nontrivial, is_object, where_it}
use Rattle.sil_types.specs.Typing.Typed.{Typed, at_point, operand_type, point, result_count}
use Rattle.sil_types.specs.Typing.Values.{value_types}
use Rattle.sil_types_declarations.specs.TypeDefinitions.Declarations.{Declarations, declarations_of}
use Rattle.sil_types_declarations.specs.TypeDefinitions.Measures.{is_trivial}
use Rattle.copy_pairing_acceptance.proofs.RewrittenTypingLaws.Alike.{Alike, Blocks, Functions, Rest, block, borrows, changed, ends, function, goes, keeps, moves as moves_op, no_block}
use Rattle.copy_pairing_acceptance.proofs.RewrittenTypingLaws.Alike.{no_function, nothing, same, same_blocks, same_functions, same_insts}
use Rattle.copy_pairing_acceptance.proofs.RewrittenTypingLaws.Lists.{get_front, same_at}

-- two instructions with one number are the same
same_op : (a b : Op) → number_of a ≡ number_of b → a ≡ b
same_op a b e = same_Some a b (sym (stands_at a) ∙ ap (slice_get OPS) e ∙ stands_at b)

op_is : (o : Op) (i : Inst) → is_op o i ≡ true → i.op ≡ o
op_is o i e = same_op i.op o (eqb-true (number_of i.op) (number_of o) e)

module _ (d : Declarations) where
  -- ---- as a borrow

  lent_alike : (c : ValueId) (i : Inst) → Alike d i (lent_inst c i)
  lent_alike c i = at (is_op op.CopyValue i && makes c i) refl (is_op op.DestroyValue i && takes c i) refl
    where
      at : (x : Bool) → (is_op op.CopyValue i && makes c i) ≡ x → (y : Bool) → (is_op op.DestroyValue i && takes c i) ≡ y
          → Alike d i (cond x (with_op op.BeginBorrow i) (cond y (with_op op.EndBorrow i) i))
      at true e y h =
          let is = op_is op.CopyValue i (and_parts (is_op op.CopyValue i) (makes c i) e).0 in
          changed i op.CopyValue op.BeginBorrow is borrows (ap (λ o. given_by o d i) (sym is))
      at false e true h =
          let is = op_is op.DestroyValue i (and_parts (is_op op.DestroyValue i) (takes c i) h).0 in
          changed i op.DestroyValue op.EndBorrow is ends (ap (λ o. given_by o d i) (sym is))
      at false e false h = same i

  lent_insts : (c : ValueId) (is : List Inst) → Rest d is (map (lent_inst c) is)
  lent_insts c [] = nothing
  lent_insts c (i ∷ is) = keeps (lent_alike c i) (lent_insts c is)

  lent_blocks : (c : ValueId) (bs : List Block) → Blocks d bs (map (lent_block c) bs)
  lent_blocks c [] = no_block
  lent_blocks c (b ∷ bs) = block (lent_insts c b.insts) (lent_blocks c bs)

  -- ---- as a move

  -- where a nontrivial type is asked for and there, an object's type is there
  same_given : (t : Option TypeName) → is_some (gives (where_it (is_nontrivial d) t)) ≡ true → gives (where_it is_object t) ≡ gives (where_it (is_nontrivial d) t)
  same_given None e = refl
  same_given (Some t) e = at (is_object t) (not (is_trivial d t)) e
    where
      at : (x y : Bool) → is_some (gives (if x && y then Some t else None)) ≡ true → gives (if x then Some t else None) ≡ gives (if x && y then Some t else None)
      at true true e = refl
      at true false e = cc
      at false y e = refl

  moved_alike : (i : Inst) → i.op ≡ op.CopyValue → keeps_row d i ≡ true → Alike d i (with_op op.MoveValue i)
  moved_alike i is row =
      let here : row_types d i ≡ gives (where_it (is_nontrivial d) (written 0 i)) = ap (λ o. given_by o d i) is in
      changed i op.CopyValue op.MoveValue is moves_op (same_given (written 0 i) (sym (ap is_some here) ∙ row) ∙ sym here)

  without : (is : List Inst) (last : ℕ) → ((i : Inst) → slice_get is last ≡ Some i → i.results ≡ []) → Rest d is (remove is last)
  without [] zero silent = nothing
  without [] (suc last) silent = nothing
  without (i ∷ is) zero silent = goes (silent i refl) (same_insts d is)
  without (i ∷ is) (suc last) silent = keeps (same i) (without is last silent)

  moved_insts : (is : List Inst) (index last : ℕ) → index < last → ((i : Inst) → slice_get is index ≡ Some i → Alike d i (with_op op.MoveValue i))
      → ((i : Inst) → slice_get is last ≡ Some i → i.results ≡ []) → Rest d is (remove (changed_at index (with_op op.MoveValue) is) last)
  moved_insts is index zero lt copied silent = absurd (omega arith)
  moved_insts [] index (suc last) lt copied silent = nothing
  moved_insts (i ∷ is) zero (suc last) lt copied silent = keeps (copied i refl) (without is last silent)
  moved_insts (i ∷ is) (suc index) (suc last) lt copied silent = keeps (same i) (moved_insts is index last (omega arith) copied silent)

  blocks_changed : (change : List Inst → List Inst) (bs : List Block) (n : ℕ) → ((b : Block) → slice_get bs n ≡ Some b → Rest d b.insts (change b.insts))
      → Blocks d bs (changed_at n (λ b. record b { insts = change b.insts }) bs)
  blocks_changed change [] n e = no_block
  blocks_changed change (b ∷ bs) zero e = block (e b refl) (same_blocks d bs)
  blocks_changed change (b ∷ bs) (suc n) e = block (same_insts d b.insts) (blocks_changed change bs n e)

  -- ---- functions

  functions_changed : (change : List Block → List Block) (fs : List Function) (n : ℕ)
      → ((f : Function) → slice_get fs n ≡ Some f → Blocks d f.blocks (change f.blocks))
      → Functions d fs (changed_at n (λ f. record f { blocks = change f.blocks }) fs)
  functions_changed change [] n e = no_function
  functions_changed change (f ∷ fs) zero e = function (e f refl) (same_functions d fs)
  functions_changed change (f ∷ fs) (suc n) e = function (same_blocks d f.blocks) (functions_changed change fs n e)

-- ---- what is known of the instructions of a typed module

module _ (m : Module) (typed : Typed m) (n : ℕ) (f : Function) (there : slice_get m.functions n ≡ Some f) where
  abbrev d : Declarations
  d = declarations_of m

  record Stands (b : ℕ) (k : ℕ) (i : Inst) : Type 0 where
    within : Block
    is_block : slice_get f.blocks b ≡ Some within
    is_inst : slice_get within.insts k ≡ Some i

  stands : (p : PointId) (i : Inst) → inst_at f p ≡ Some i → Stands p.block.0 p.index i
  stands p i e = at (slice_get f.blocks p.block.0) refl
    where
      at : (o : Option Block) → slice_get f.blocks p.block.0 ≡ o → Stands p.block.0 p.index i
      at None none = absurd (let wrong : None ≡ Some i = sym (ap (λ o. inst_in o p.index) none) ∙ e in cc)
      at (Some b) is = record { within = b; is_block = is; is_inst = sym (ap (λ o. inst_in o p.index) is) ∙ e }

  module _ (b k : ℕ) (i : Inst) (h : Stands b k i) where
    at_it : IsAt f b k i
    at_it = record { within = h.within; is_block = h.is_block; is_inst = get_front h.within.insts (h.within.terminator ∷ []) k i h.is_inst }

    row_kept : keeps_row d i ≡ true
    row_kept = by (has_operand_types d (value_types d f) i) refl
      where
        by : (x : Bool) → has_operand_types d (value_types d f) i ≡ x → keeps_row d i ≡ true
        by true e =
            let types = value_types d f in
            (and_parts (keeps_row d i) (are_as_written types i.operands)
            (and_parts (keeps_row d i && are_as_written types i.operands) (list_all (edge_is_as_written types) i.edges)
            (and_parts (keeps_row d i && are_as_written types i.operands && list_all (edge_is_as_written types) i.edges) (are_as_asked types i) e).0).0).0
        by false e = absurd (typed (at_point n b k) rule.OperandType (point n f b k i rule.OperandType there at_it (operand_type (ap not e))))

    no_results : i.op ≡ op.DestroyValue → i.results ≡ []
    no_results is =
        nil_from_length i.results
        (eqb-true (length i.results) 0
        (sym (ap (λ o. is_count_by (results_of o) (row_types d i) (length i.results)) is)
        ∙ by (is_count_by (results_of i.op) (row_types d i) (length i.results)) refl))
      where
        by : (x : Bool) → is_count_by (results_of i.op) (row_types d i) (length i.results) ≡ x → is_count_by (results_of i.op) (row_types d i) (length i.results) ≡ true
        by true e = e
        by false e = absurd (typed (at_point n b k) rule.ResultCount (point n f b k i rule.ResultCount there at_it (result_count (ap not e))))

  moved_blocks : (p : PointId) (c v : ValueId) (copy : IsCopy f p c v) (h : IsMovable (facts_of m f) f p c v) → Blocks d f.blocks (moved p h.last f).blocks
  moved_blocks p c v copy h =
      let copied = stands p copy.inst copy.stands in
      let gone = h.next.destroyed in
      let destroyed = stands (record { block = record { 0 = p.block.0 }; index = h.last }) gone.inst gone.stands in
      blocks_changed d (λ is. remove (changed_at p.index (with_op op.MoveValue) is) h.last) f.blocks p.block.0
      (λ b is_block.
      moved_insts d b.insts p.index h.last h.next.behind
      (λ i e.
      let here : Stands p.block.0 p.index i = record { within = b; is_block = is_block; is_inst = e } in
      let same_block : copied.within ≡ b = same_at f.blocks p.block.0 copied.within b copied.is_block is_block in
      let same_inst : copy.inst ≡ i = same_at b.insts p.index copy.inst i (sym (ap (λ (x : Block). slice_get x.insts p.index) same_block) ∙ copied.is_inst) e in
      moved_alike d i (sym (ap (λ (x : Inst). x.op) same_inst) ∙ op_is op.CopyValue copy.inst copy.copies.copies) (row_kept p.block.0 p.index i here))
      (λ i e.
      let here : Stands p.block.0 h.last i = record { within = b; is_block = is_block; is_inst = e } in
      let same_block : destroyed.within ≡ b = same_at f.blocks p.block.0 destroyed.within b destroyed.is_block is_block in
      let same_inst : gone.inst ≡ i = same_at b.insts h.last gone.inst i (sym (ap (λ (x : Block). slice_get x.insts h.last) same_block) ∙ destroyed.is_inst) e in
      no_results p.block.0 h.last i here (sym (ap (λ (x : Inst). x.op) same_inst) ∙ op_is op.DestroyValue gone.inst gone.destroys.destroys)))

-- the functions of the module in which a copy was rewritten
pub record IsMadeOf (m next : Module) : Type 0 where
  pub functions : List Function
  pub alike : Functions (declarations_of m) m.functions functions
  pub is : next ≡ record m { functions = functions }

pub is_made : (m : Module) (n : ℕ) (p : PointId) (next : Module) → Typed m → Rewrites m n p next → IsMadeOf m next
is_made m n p _ typed (lends f c v there copy borrowable) = record {
  functions = changed_at n (lent c) m.functions;
  alike = functions_changed (declarations_of m) (map (lent_block c)) m.functions n (λ g e. lent_blocks (declarations_of m) c g.blocks);
  is = refl;
}
is_made m n p _ typed (moves f c v there copy never h) = record {
  functions = changed_at n (moved p h.last) m.functions;
  alike = functions_changed (declarations_of m) (λ bs. changed_at p.block.0 (moved_block p.index h.last) bs) m.functions n
      (λ g e.
      let same_one : f ≡ g = same_at m.functions n f g there e in
      subst (λ (x : Function). Blocks (declarations_of m) x.blocks (changed_at p.block.0 (moved_block p.index h.last) x.blocks)) same_one
      (moved_blocks m typed n f there p c v copy h));
  is = refl;
}
