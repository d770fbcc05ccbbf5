-- The switch that goes to a block: the one whose edge goes there, since no other edge does.
use Rattle.std.proofs.Common.{◌≡◌, ℕ, ◌<◌, refl, sym, ap, ap₂, ◌∙◌, subst, arith, Bool, true, false, Option, Some, None}
use Rattle.std.specs.Prelude.{◌||◌, ◌==◌, Contains, option_map, slice_get, if◌then◌else◌}
use Rattle.std.specs.List.{flat_map, list_all}
use Rattle.std.proofs.lemmas.Bool.{eq-eqb, eqb-true}
use Rattle.std.proofs.lemmas.List.Sums.{length-filter}
use Rattle.instruction_table.specs.Forms.{ending_of}
use Rattle.instruction_table.specs.declared.entries.Ending.{Ending}
use Rattle.instruction_table.specs.declared.entries.Ending.TheVariants as ending
use Rattle.instruction_table.specs.declared.op.Op.{Op}
use Rattle.instruction_table.specs.declared.op.Op.TheVariants as op
use Rattle.sil_cfg_items.specs.Parts.{terminator_in}
use Rattle.numbered_form.proofs.Lists.{contained}
use Rattle.holder_model_typing.specs.ownership_kinds_origins.Switched.{edge_to, switch_to, switched_by, switches_by, switches_from}
use Rattle.holder_model_typing.specs.ownership_kinds_origins.declared.switched.Switched.{Switched}
use Rattle.holder_model_typing.proofs.RunTypingLaws.Found.{neither_first, neither_second, not_false}
use Rattle.holder_model_typing.proofs.RunTypingLaws.FunctionFacts.{TypedInst}
use Rattle.holder_model_typing.proofs.RunTypingLaws.Rows.Finding.{passes_at}
use Rattle.sil_ast.specs.declared.function.Block.{Block}
use Rattle.sil_ast.specs.declared.function.Function.{Function}
use Rattle.sil_ast.specs.declared.inst.Edge.{Edge}
use Rattle.sil_ast.specs.declared.inst.Inst.{Inst}
use Rattle.sil_ast.specs.declared.module.Module.{Module}
use Rattle.sil_ast.specs.declared.place.ValueId.{ValueId}
use Rattle.sil_ast.specs.declared.type_name.TypeName.{TypeName}
use Rattle.holder_model_typing.specs.sil_types.Typing.RowTypes.{written}
use Rattle.holder_model_typing.specs.sil_types.Typing.SwitchRules.{edges_of, edges_of_block, has_wrong_cases_by, incoming, is_alone}
use Rattle.holder_model_typing.specs.sil_types.Typing.SwitchRules.{is_to, leaves_out_case, misfits_default, misfits_payload, names_other_case}
use Rattle.holder_model_typing.specs.sil_types.Typing.SwitchRules.{repeats_case, shares_block, switches_wrongly}
use Rattle.holder_model_typing.specs.sil_types_declarations.TypeDefinitions.Declarations.{Declarations, declarations_of}
use Rattle.numbered_form.specs.ValueTables.FirstValue.{first_value}
use Rattle.sil_verifier_values.specs.inner.Known.{IsAcceptedBody}
use Rattle.sil_verifier_values.proofs.Accepted.{typed}
use Rattle.sil_verifier_values.proofs.Counted.{in_all}
use Rattle.sil_verifier_values.proofs.EdgesOnce.{from_all, from_kept, into_kept, none_first, once_in}

pub only_switch : (o : Op) → ending_of o ≡ ending.Cases → o ≡ op.SwitchEnum
only_switch op.SwitchEnum e = refl
only_switch _ e = absurd (cc)

-- an edge of the terminator of a block
pub record Leaves (f : Function) (b k : ℕ) (t : Inst) (e : Edge) : Type 0 where
  pub block : Block
  pub is_block : slice_get f.blocks b ≡ Some block
  pub ends : block.terminator ≡ t
  pub there : slice_get t.edges k ≡ Some e

-- a switch whose edge goes to the block with this number
pub record ComesFrom (f : Function) (n : ℕ) (s : Switched) : Type 0 where
  pub block : ℕ
  pub index : ℕ
  pub terminator : Inst
  pub edge : Edge
  pub leaves : Leaves f block index terminator edge
  pub switches : ending_of terminator.op ≡ ending.Cases
  pub to : edge.block.0 ≡ n
  pub made : option_map (switched_by edge) (first_value terminator) ≡ Some s

edge_made : (n : ℕ) (t : Inst) (e : Edge) (s : Switched) → edge_to n t e ≡ Some s → (e.block.0 ≡ n) × (option_map (switched_by e) (first_value t) ≡ Some s)
edge_made n t e s h = at (e.block.0 == n) refl h
  where
    at : (b : Bool) → (e.block.0 == n) ≡ b → (if b then option_map (switched_by e) (first_value t) else None) ≡ Some s
        → (e.block.0 ≡ n) × (option_map (switched_by e) (first_value t) ≡ Some s)
    at true is h = (eqb-true e.block.0 n is, h)
    at false is h = cc

record MadeByEdge (n : ℕ) (t : Inst) (s : Switched) : Type 0 where
  index : ℕ
  edge : Edge
  there : slice_get t.edges index ≡ Some edge
  switches : ending_of t.op ≡ ending.Cases
  to : edge.block.0 ≡ n
  made : option_map (switched_by edge) (first_value t) ≡ Some s

made_by_edge : (n : ℕ) (t : Inst) (s : Switched) (x : Ending) → ending_of t.op ≡ x → Contains (switches_by x n t) s → MadeByEdge n t s
made_by_edge n t s ending.Inside e c = absurd (let lt : c.0 < 0 = c.1 in omega arith)
made_by_edge n t s ending.OneBranch e c = absurd (let lt : c.0 < 0 = c.1 in omega arith)
made_by_edge n t s ending.TwoBranches e c = absurd (let lt : c.0 < 0 = c.1 in omega arith)
made_by_edge n t s ending.Cases e c =
    let it = from_kept (edge_to n t) t.edges s c in
    let so = edge_made n t it.1 s it.3 in
    record { index = it.0; edge = it.1; there = it.2; switches = e; to = so.0; made = so.1 }
made_by_edge n t s ending.Return e c = absurd (let lt : c.0 < 0 = c.1 in omega arith)
made_by_edge n t s ending.Unreachable e c = absurd (let lt : c.0 < 0 = c.1 in omega arith)

pub comes_from : (f : Function) (n : ℕ) (s : Switched) → switch_to f n ≡ Some s → ComesFrom f n s
comes_from f n s e =
    let all = from_all (switches_from n) f.blocks s (contained (flat_map (switches_from n) f.blocks) 0 s e) in
    let it = made_by_edge n all.1.terminator s (ending_of all.1.terminator.op) refl all.3 in
    record {
      block = all.0;
      index = it.index;
      terminator = all.1.terminator;
      edge = it.edge;
      leaves = record { block = all.1; is_block = all.2; ends = refl; there = it.there };
      switches = it.switches;
      to = it.to;
      made = it.made;
    }

-- no two edges go to a block to which one goes alone
one_edge : (f : Function) (b c k l n : ℕ) (t u : Inst) (x y : Edge) → Leaves f b k t x → Leaves f c l u y → incoming f n ≡ 1 → x.block.0 ≡ n → y.block.0 ≡ n
    → (b ≡ c) × (k ≡ l)
one_edge f b c k l n t u x y from other alone to into =
    once_in (is_to n) edges_of_block f.blocks b c k l from.block other.block x y (let count = length-filter (is_to n) (edges_of f) in omega (arith, count, alone)) from.is_block other.is_block
    (ap (λ (z : Inst). slice_get z.edges k) from.ends ∙ from.there) (ap (λ (z : Inst). slice_get z.edges l) other.ends ∙ other.there)
    (eq-eqb x.block.0 n to) (eq-eqb y.block.0 n into)

same_leaves : (f : Function) (b k : ℕ) (t u : Inst) (x y : Edge) → Leaves f b k t x → Leaves f b k u y → (t ≡ u) × (x ≡ y)
same_leaves f b k t u x y from other =
    let blocks : from.block ≡ other.block = let one = from.is_block in let two = other.is_block in cc in
    let same : t ≡ u = sym from.ends ∙ ap (λ (z : Block). z.terminator) blocks ∙ other.ends in
    (same, let one = from.there in let two : slice_get t.edges k ≡ Some y = ap (λ (z : Inst). slice_get z.edges k) same ∙ other.there in cc)

module _ (m : Module) (n : ℕ) (f : Function) (a : IsAcceptedBody m n f) where
  abbrev d : Declarations
  d = declarations_of m

  -- 209: the block of a switch's edge has no other edge to it
  pub alone : (b k : ℕ) (t : Inst) (e : Edge) → Leaves f b k t e → ending_of t.op ≡ ending.Cases → incoming f e.block.0 ≡ 1
  alone b k t e from switches =
      let end = (typed m n f a).ends b t (ap (λ o. terminator_in o) from.is_block ∙ ap (λ i. Some i) from.ends) in
      let known : TypedInst m f t = (typed m n f a).insts b end.0 t end.2 in
      let right : has_wrong_cases_by op.SwitchEnum d f t ≡ false = ap (λ o. has_wrong_cases_by o d f t) (sym (only_switch t.op switches)) ∙ known.cases in
      eqb-true (incoming f e.block.0) 1 (passes_at (is_alone f) t.edges k e (kept (written 0 t) right) from.there)
    where
      kept : (o : Option TypeName) → switches_wrongly d f t.edges o ≡ false → list_all (is_alone f) t.edges ≡ true
      kept None h = cc
      kept (Some u) h =
          let five = neither_first _ (misfits_default f u t.edges) h in
          let four = neither_first _ (misfits_payload d f u t.edges) five in
          not_false _ (neither_second (names_other_case d u t.edges || repeats_case d u t.edges || leaves_out_case d u t.edges) (shares_block f t.edges) four)

  -- the switch that goes to the block of its edge
  pub switch_of : (b k : ℕ) (t : Inst) (e : Edge) (v : ValueId) → Leaves f b k t e → ending_of t.op ≡ ending.Cases → first_value t ≡ Some v
      → switch_to f e.block.0 ≡ Some (switched_by e v)
  switch_of b k t e v from switches operand = at (switch_to f e.block.0) refl
    where
      made : Contains (flat_map (switches_from e.block.0) f.blocks) (switched_by e v)
      made =
          in_all (switches_from e.block.0) f.blocks b from.block (switched_by e v) from.is_block
          (subst (λ i. Contains (switches_by (ending_of i.op) e.block.0 i) (switched_by e v)) (sym from.ends)
          (subst (λ x. Contains (switches_by x e.block.0 t) (switched_by e v)) (sym switches)
          (into_kept (edge_to e.block.0 t) t.edges k e (switched_by e v) from.there goes)))
        where
          goes : edge_to e.block.0 t e ≡ Some (switched_by e v)
          goes =
              ap (λ x. if x then option_map (switched_by e) (first_value t) else None) (eq-eqb e.block.0 e.block.0 refl)
              ∙ ap (option_map (switched_by e)) operand

      at : (o : Option Switched) → switch_to f e.block.0 ≡ o → switch_to f e.block.0 ≡ Some (switched_by e v)
      at None is = absurd (none_first (flat_map (switches_from e.block.0) f.blocks) (switched_by e v) is made)
      at (Some s) is =
          let it = comes_from f e.block.0 s is in
          let place = one_edge f b it.block k it.index e.block.0 t it.terminator e it.edge from it.leaves (alone b k t e from switches) refl it.to in
          let there : Leaves f b k it.terminator it.edge =
          subst (λ c. Leaves f c k it.terminator it.edge) (sym place.0) (subst (λ l. Leaves f it.block l it.terminator it.edge) (sym place.1) it.leaves) in
          let same = same_leaves f b k t it.terminator e it.edge from there in
          let so : Some (switched_by e v) ≡ Some s =
          ap (option_map (switched_by e)) (sym operand) ∙ ap₂ (λ i x. option_map (switched_by x) (first_value i)) same.0 same.1 ∙ it.made in
          is ∙ sym so

  -- no switch goes to the block of an edge of a branch
  pub no_switch : (b k : ℕ) (t : Inst) (e : Edge) → Leaves f b k t e → (ending_of t.op ≡ ending.Cases → ⊥) → switch_to f e.block.0 ≡ None
  no_switch b k t e from branches = at (switch_to f e.block.0) refl
    where
      at : (o : Option Switched) → switch_to f e.block.0 ≡ o → switch_to f e.block.0 ≡ None
      at None is = is
      at (Some s) is =
          let it = comes_from f e.block.0 s is in
          let place = one_edge f it.block b it.index k e.block.0 it.terminator t it.edge e it.leaves from
          (ap (incoming f) (sym it.to) ∙ alone it.block it.index it.terminator it.edge it.leaves it.switches) it.to refl in
          let there : Leaves f it.block it.index t e = subst (λ c. Leaves f c it.index t e) (sym place.0) (subst (λ l. Leaves f b l t e) (sym place.1) from) in
          absurd (branches (ap (λ (i : Inst). ending_of i.op) (sym (same_leaves f it.block it.index it.terminator t it.edge e it.leaves there).0) ∙ it.switches))
