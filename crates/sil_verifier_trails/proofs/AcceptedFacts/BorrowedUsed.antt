-- What opens a scope uses what the scope borrows from: `begin_borrow` alone lends a value, and its operand is no address, so that what has a base there is Owned or Guaranteed.
use Rattle.std.proofs.Common.{◌≡◌, ℕ, zero, suc, List, [], ◌∷◌, ◌++◌, append-nil, length, map, refl, sym, ap, ap₂, ◌∙◌, subst, true, false, ◌||◌, Option, Some, None}
use Rattle.std.specs.Prelude.{◌==◌, Contains, is_some, option_and_then, option_map, slice_get}
use Rattle.std.specs.List.{list_any}
use Rattle.std.proofs.lemmas.Bool.{and_parts, false≢true}
use Rattle.std.proofs.lemmas.Option.{none-some, same_Some}
use Rattle.sil_verifier_trails.specs.AcceptedFacts.inner.OpenScopes.{AreBorrowedUsed, AreHeldWhileBorrowed, AreOpenWhileBorrowed}
use Rattle.sil_verifier_trails.proofs.AcceptedFacts.PlainAddresses.{plain_address}
use Rattle.instruction_table.specs.Forms.{result_kind_of, roles_of}
use Rattle.instruction_table.specs.declared.entries.Role.TheVariants as role
use Rattle.instruction_table.specs.declared.op.Op.{Op}
use Rattle.instruction_table.specs.declared.op.Op.TheVariants as op
use Rattle.sil_cfg_items.specs.Items.{arg_value, item_taken, taken_in}
use Rattle.sil_cfg_items.specs.Parts.{inst_at}
use Rattle.sil_cfg_items.specs.Roles.{by_row, conventions_in, roles_for, taken_as, taken_by, taken_each}
use Rattle.numbered_form.specs.inner.Parts.{has_operands, is_typed}
use Rattle.sil_verifier_values.specs.ownership_kinds_chains.OwnershipChains.Facts.{facts_with, has, known_or}
use Rattle.sil_verifier_values.specs.ownership_kinds_chains.declared.ownership_chains.facts.Facts.{Facts}
use Rattle.sil_verifier_values.specs.ownership_kinds_chains.OwnershipMarks.Marks.{use_of, used_with}
use Rattle.sil_verifier_values.specs.ownership_kinds_chains.declared.ownership_marks.mark.Mark.{Mark}
use Rattle.sil_ast.specs.Blocks.{args_of}
use Rattle.sil_ast.specs.declared.function.BlockArg.{BlockArg}
use Rattle.sil_ast.specs.declared.function.Function.{Function}
use Rattle.sil_ast.specs.declared.inst.Inst.{Inst}
use Rattle.sil_ast.specs.declared.module.Module.{Module}
use Rattle.sil_ast.specs.declared.operands.Operand.{Operand}
use Rattle.sil_ast.specs.declared.place.PointId.{PointId}
use Rattle.sil_ast.specs.declared.place.ValueId.{ValueId}
use Rattle.sil_ast.specs.declared.type_name.TypeName.{TypeName}
use Rattle.sil_cfg.specs.Items.{flow_of}
use Rattle.sil_cfg.specs.declared.item.Item.{Item}
use Rattle.sil_cfg.specs.declared.item.Item.TheVariants as items
use Rattle.sil_cfg.specs.inner.Splice.{Stop, is_at}
use Rattle.sil_cfg.proofs.Places.{same_item-true}
use Rattle.sil_verifier_values.specs.sil_types_declarations.TypeDefinitions.Declarations.{Declarations, declarations_of}
use Rattle.sil_verifier_values.specs.sil_types_declarations.declared.type_definitions.kind.Kind.{Kind}
use Rattle.sil_verifier_values.specs.sil_types_declarations.declared.type_definitions.kind.Kind.TheVariants as kind
use Rattle.numbered_form.specs.ValueTables.Borrows.{borrow_at, borrow_by, borrows_of, borrow_in, is_borrow, lends, takes_address}
use Rattle.numbered_form.specs.ValueTables.FirstValue.{first_value, value_of}
use Rattle.numbered_form.specs.declared.value_tables.borrows.Borrow.{Borrow}
use Rattle.sil_verifier_values.specs.borrow_scopes.Scopes.{bases_in}
use Rattle.sil_verifier_values.specs.ownership_kinds_origins.Facts.{facts_in}
use Rattle.sil_verifier_values.specs.sil_types.Typing.OperandTypes.{is_as_written, is_as_written_by}
use Rattle.sil_verifier_values.specs.sil_types.Typing.RowTypes.{given_by, type_of, written}
use Rattle.sil_verifier_values.specs.sil_types.Typing.Same.{is_same_type}
use Rattle.sil_verifier_values.specs.sil_types.Typing.Shapes.{is_nontrivial, is_object, target, where_it}
use Rattle.sil_verifier_values.specs.sil_types.Typing.Values.{type_of_value, value_types}
use Rattle.sil_verifier_trails.specs.AcceptedTrails.inner.Bases.{IsBaseOf}
use Rattle.sil_verifier_trails.specs.AcceptedTrails.inner.Lives.{BorrowsFrom}
use Rattle.sil_verifier_trails.specs.AcceptedTrails.inner.Passing.{is_use}
use Rattle.sil_verifier_values.specs.inner.Known.{IsAcceptedBody, kind_at, type_in}
use Rattle.sil_verifier_values.specs.inner.Making.{IsMadeAt, argument, parameter, result}
use Rattle.sil_verifier_trails.proofs.AcceptedTrails.BasesOpen.{borrowed_held, borrowed_open}
use Rattle.sil_verifier_trails.proofs.AcceptedTrails.Unbroken.{are_accepted}
use Rattle.sil_verifier_trails.proofs.AcceptedPremises.MadeAtStops.{makes_so, stop_made}
use Rattle.sil_verifier_values.proofs.Accepted.{typed}
use Rattle.sil_verifier_values.proofs.Based.{owned_own_bases}
use Rattle.sil_verifier_values.proofs.Counted.{stands}
use Rattle.sil_verifier_values.proofs.Made.{made_there}
use Rattle.sil_verifier_values.proofs.TableRows.{argument_rows, result_rows}
use Rattle.sil_verifier_values.proofs.holder_model_typing.RunTypingLaws.EndFacts.{one_operand}
use Rattle.sil_verifier_values.proofs.holder_model_typing.RunTypingLaws.FunctionFacts.{TypedInst}
use Rattle.sil_verifier_values.proofs.holder_model_typing.RunTypingLaws.Rows.Finding.{passed, passes_at, where_found}
use Rattle.sil_verifier_values.proofs.holder_model_typing.RunTypingLaws.Rows.Layers.{object_target}
use Rattle.sil_verifier_values.proofs.holder_model_typing.RunTypingLaws.Rows.Shares.{given_one}
use Rattle.sil_verifier_values.proofs.holder_model_typing.RunTypingLaws.ShapeFacts.{same_types}
use Rattle.sil_verifier_values.proofs.holder_model_typing.RunTypingLaws.ValueForms.{operands_written, row_kept}
use Rattle.sil_verifier_trails.proofs.ScopedAddresses.OwnScopes.{own_scope}

-- ---- what begins a borrow of a value

-- a scope that borrows from something is the result of `begin_borrow`
lending : (facts : ValueId → Facts) (b : ValueId) (x : Inst) (o : Op) → x.op ≡ o → has (bases_in facts (lends (borrow_by (result_kind_of o) x))) b.0 ≡ true → x.op ≡ op.BeginBorrow
lending facts b x op.BeginBorrow is h = is
lending facts b x op.LoadBorrow is h =
    absurd (false≢true (sym (ap (λ o. has (bases_in facts (lends (borrow_at (takes_address (roles_of o)) (first_value x)))) b.0) is) ∙ h))
lending facts b x _ is h = absurd (false≢true h)

any_used : (b : ValueId) (vs : List ValueId) → list_any (λ (k : Mark). k.subject.0 == b.0) (map use_of vs) ≡ has vs b.0
any_used b [] = refl
any_used b (v ∷ vs) = ap (λ x. (v.0 == b.0) || x) (any_used b vs)

arg_there : (args : List BlockArg) (k : ℕ) (v : ValueId) → slice_get (map arg_value args) k ≡ Some v → (j : ℕ) × (x : BlockArg) × (slice_get args j ≡ Some x) × (x.value ≡ v)
arg_there [] k v e = absurd (none-some v e)
arg_there (x ∷ args) zero v e = (0, x, refl, same_Some x.value v e)
arg_there (x ∷ args) (suc k) v e = let r = arg_there args k v e in (suc r.0, r.1, r.2, r.3)

module _ (m : Module) (n : ℕ) (f : Function) (a : IsAcceptedBody m n f) where
  abbrev d : Declarations
  d = declarations_of m

  abbrev facts : ValueId → Option Facts
  facts = facts_in d f

  -- the operand of `begin_borrow` is no address
  module _ (p : PointId) (x : Inst) (there : inst_at f p ≡ Some x) (borrow : x.op ≡ op.BeginBorrow) where
    known : TypedInst m f x
    known = ((typed m n f a).insts p.block.0 p.index x ((typed m n f a).inside p x there).1)

    one : (o : Operand) × (x.operands ≡ o ∷ []) × (is_typed o ≡ true)
    one = one_operand is_typed x.operands (ap (λ o. has_operands o x.operands) (sym borrow) ∙ known.parts.operands)

    object_type : (t : TypeName) × (type_in d f one.0.value ≡ Some t) × (target t ≡ None)
    object_type =
        let kept : is_some (given_by op.BeginBorrow d x) ≡ true = ap (λ o. is_some (given_by o d x)) (sym borrow) ∙ row_kept m f x known in
        let it = given_one (where_it (is_nontrivial d) (written 0 x)) kept in
        let found = where_found (is_nontrivial d) (written 0 x) it.0 it.1 in
        let object = (and_parts (is_object it.0) _ found.1).0 in
        let first : slice_get x.operands 0 ≡ Some one.0 = ap (λ os. slice_get os 0) one.1 in
        let as_written = passes_at (is_as_written (value_types d f)) x.operands 0 one.0 (operands_written m f x known) first in
        let ty : one.0.ty ≡ Some it.0 = ap (option_and_then type_of) (sym first) ∙ found.0 in
        let has_it = subst (λ y. is_as_written_by (value_types d f) one.0 y ≡ true) ty as_written in
        let is = passed (is_same_type it.0) (type_of_value (value_types d f) one.0) has_it in
        (it.0, is.1 ∙ ap (λ (t : TypeName). Some t) (sym (same_types it.0 is.0 is.2)), object_target it.0 object)

    no_address : (b : ValueId) → kind_at d f one.0.value ≡ kind.Plain → IsBaseOf d f b one.0.value → ⊥
    no_address b plain base =
        let t = object_type in
        let at = plain_address m n f a one.0.value b plain base t.0 t.1 in
        none-some at.0 (sym t.2 ∙ at.1)

    module _ (b : ValueId) (base : IsBaseOf d f b one.0.value) where
      used : (q : Option Facts) → facts one.0.value ≡ q → has (known_or (λ _. q) one.0.value).bases b.0 ≡ true
          → list_any (λ (k : Mark). k.subject.0 == b.0) (used_with q (taken_as one.0 (by_row role.Used))) ≡ true
      used None is h = absurd (false≢true h)
      used (Some y) is h = by y.kind refl
        where
          of_kind : kind_at d f one.0.value ≡ y.kind
          of_kind = ap (λ q. (known_or (λ _. q) one.0.value).kind) is

          by : (k : Kind) → y.kind ≡ k → list_any (λ (k : Mark). k.subject.0 == b.0) (used_with (Some (facts_with k y.bases)) (taken_as one.0 (by_row role.Used))) ≡ true
          by kind.Owned e =
              let own = owned_own_bases m n f a one.0.value (of_kind ∙ e) in
              ap (λ (z : Facts). has z.bases b.0) (same_Some (facts_with kind.Owned (one.0.value ∷ [])) y (sym own ∙ is)) ∙ h
          by kind.Guaranteed e = any_used b y.bases ∙ h
          by kind.Plain e = absurd (no_address b (of_kind ∙ e) base)

      taken : list_any (is_use facts b) (item_taken f (items.Inst p)) ≡ true
      taken =
          ap (λ o. list_any (is_use facts b) (taken_in o ++ [])) there ∙ ap (list_any (is_use facts b)) (append-nil (taken_by x))
          ∙ ap₂ (λ os o. list_any (is_use facts b) (taken_each os (roles_for (roles_of o) (conventions_in x) (length os)))) one.1 borrow
          ∙ ap (λ u. u || false) (used (facts one.0.value) refl base)

  module _ (s b : ValueId) (from : BorrowsFrom d f s b) where
    abbrev Uses : Item → Type 0
    Uses i = list_any (is_use facts b) (item_taken f i) ≡ true

    by_result : (p : PointId) (x : Inst) (k : ℕ) → inst_at f p ≡ Some x → slice_get x.results k ≡ Some s → Uses (items.Inst p)
    by_result p x k there at =
        let row = result_rows m n f a p.block.0 p.index k x s ((typed m n f a).inside p x there).1 at in
        let lent = ap (λ (y : Borrow). has (bases_in (known_or facts) (lends y)) b.0) (sym row.borrow) ∙ from in
        let borrow = lending (known_or facts) b x x.op refl lent in
        let w = one p x there borrow in
        let scope : has (bases_in (known_or facts) (lends (borrow_at (takes_address (roles_of x.op)) (first_value x)))) b.0 ≡ true =
        ap (λ o. has (bases_in (known_or facts) (lends (borrow_by (result_kind_of o) x))) b.0) (sym borrow) ∙ lent in
        let base = ap₂ (λ o (os : List Operand). has (bases_in (known_or facts) (lends (borrow_at (takes_address (roles_of o)) (option_map value_of (slice_get os 0))))) b.0) (sym borrow) (sym w.1)
        ∙ scope in
        taken p x there borrow b base

    no_argument : (c k : ℕ) (x : BlockArg) → slice_get (args_of f c) k ≡ Some x → x.value ≡ s → ⊥
    no_argument c k x there is =
        let row = argument_rows m n f a c k x there in
        let none = ap (λ (v : ValueId). borrow_in (borrows_of f) v.0) (sym is) ∙ row.borrow in
        false≢true (ap (λ (y : Borrow). has (bases_in (known_or facts) (lends y)) b.0) (sym none) ∙ from)

    among_no_arguments : (c : ℕ) → Contains (map arg_value (args_of f c)) s → ⊥
    among_no_arguments c among =
        let k = stands (map arg_value (args_of f c)) s among in
        let x = arg_there (args_of f c) k.0 s k.1 in
        no_argument c x.0 x.1 x.2 x.3

    at_stop : (stop : Stop) (i : Item) → IsMadeAt f s stop → is_at (flow_of f) stop i ≡ true → Uses i
    at_stop _ i (result p x there c) h = let k = stands x.results s c in subst Uses (sym (same_item-true i (items.Inst p) h)) (by_result p x k.0 there k.1)
    at_stop _ i (parameter c) h = absurd (among_no_arguments 0 c)
    at_stop _ i (argument c lt there) h = absurd (among_no_arguments c there)

pub borrowed_used : AreBorrowedUsed
borrowed_used m n f a s b i is made from =
    let stop = stop_made m n f a i s made in at_stop m n f a s b from stop.0 i stop.1 ((made_there m n f a s stop.0 i stop.1 is).0 (makes_so f s i made))

pub held_while_borrowed : AreHeldWhileBorrowed
held_while_borrowed m n f a s b scope owned from t trail opened =
    borrowed_held (declarations_of m) f (are_accepted m n f a.verified a.body) (borrowed_used m n f a) s b scope owned from t trail opened

pub open_while_borrowed : AreOpenWhileBorrowed
open_while_borrowed m n f a s b scope base from t trail opened =
    let borrow = (and_parts _ (is_borrow f b) base.scope).1 in
    borrowed_open (declarations_of m) f (are_accepted m n f a.verified a.body) (borrowed_used m n f a) s b scope base (own_scope m n f a b borrow).own from t trail opened
