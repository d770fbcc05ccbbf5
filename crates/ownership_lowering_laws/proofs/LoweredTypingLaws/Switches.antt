-- The switch that goes to a block, and whether the block's arguments are other names for what is switched.
use Rattle.std.proofs.Common.{◌≡◌, ℕ, ◌≤◌, List, [], ◌∷◌, refl, sym, ap, ◌∙◌, subst, arith, cond, true, false, not, Option, Some, None}
use Rattle.std.specs.Prelude.{◌||◌, ◌==◌, is_none, is_some, option_and_then, option_map, slice_get, count_by, if◌then◌else◌}
use Rattle.std.specs.List.{flat_map, list_all}
use Rattle.std.proofs.lemmas.Bool.{eq-eqb, eqb-true, not-false, or_parts}
use Rattle.instruction_table.specs.Forms.{ending_of}
use Rattle.instruction_table.specs.declared.entries.Ending.{Ending}
use Rattle.instruction_table.specs.declared.entries.Ending.TheVariants as ending
use Rattle.instruction_table.specs.declared.op.Op.{Op}
use Rattle.instruction_table.specs.declared.op.Op.TheVariants as op
use Rattle.sil_ast.specs.Blocks.{args_of}
use Rattle.sil_ast.specs.declared.function.Block.{Block}
use Rattle.sil_ast.specs.declared.function.BlockArg.{BlockArg}
use Rattle.sil_ast.specs.declared.function.Form.{Form}
use Rattle.sil_ast.specs.declared.function.Function.{Function}
use Rattle.sil_ast.specs.declared.inst.Edge.{Edge}
use Rattle.sil_ast.specs.declared.inst.Inst.{Inst}
use Rattle.sil_ast.specs.declared.member.Member.{Member}
use Rattle.sil_ast.specs.declared.module.Module.{Module}
use Rattle.sil_ast.specs.declared.operands.Operand.{Operand}
use Rattle.sil_ast.specs.declared.place.ValueId.{ValueId}
use Rattle.sil_ast.specs.declared.type_name.TypeName.{TypeName}
use Rattle.numbered_form.specs.Lists.{Each}
use Rattle.ownership_kinds.specs.ownership_kinds_origins.Renamings.{default_operand}
use Rattle.ownership_kinds.specs.ownership_kinds_origins.Switched.{edge_to, switch_to, switched_by, switches_by, switches_from}
use Rattle.ownership_kinds.specs.ownership_kinds_origins.declared.switched.Switched.{Switched}
use Rattle.sil_types_declarations.specs.TypeDefinitions.Declarations.{declarations_of}
use Rattle.numbered_form.specs.ValueTables.FirstValue.{first_value, value_of}
use Rattle.holder_model_typing.specs.sil_types.Typing.EdgeRules.{goes_to_entry, is_to_entry}
use Rattle.holder_model_typing.specs.sil_types.Typing.FormRules.{is_lowered}
use Rattle.holder_model_typing.specs.sil_types.Typing.RowTypes.{given_by, type_of, written}
use Rattle.holder_model_typing.specs.sil_types.Typing.Same.{is_same_type}
use Rattle.holder_model_typing.specs.sil_types.Typing.Shapes.{is_enum, where_it}
use Rattle.holder_model_typing.specs.sil_types.Typing.SwitchRules.{edges_of_block, fits_case, fits_default, has_case, has_wrong_cases_by, incoming, is_alone, is_default_argument}
use Rattle.holder_model_typing.specs.sil_types.Typing.SwitchRules.{is_to, leaves_out_case}
use Rattle.holder_model_typing.specs.sil_types.Typing.SwitchRules.{misfits_default, misfits_payload, names_other_case, repeats_case, shares_block, switches_wrongly}
use Rattle.holder_model_typing.specs.sil_types.Typing.Values.{type_at, value_types}
use Rattle.holder_model_typing.proofs.RunTypingLaws.Found.{both_second, each_at}
use Rattle.holder_model_typing.proofs.RunTypingLaws.ListFacts.{or_second}
use Rattle.holder_model_typing.proofs.RunTypingLaws.Rows.Finding.{fails_at, passes_at, where_found}
use Rattle.numbered_form.proofs.Lists.{mapped_from}
use Rattle.holder_model_typing.proofs.RunTypingLaws.SameTypes.{same_types}
use Rattle.ownership_lowering_laws.proofs.LoweredTypingLaws.Becomes.{taken_type}
use Rattle.ownership_lowering_laws.proofs.LoweredTypingLaws.Lists.{first_from, kept_first, only_within, some_first, some_kept, where_true}
use Rattle.ownership_lowering_laws.proofs.LoweredTypingLaws.Operands.{typed_at}
use Rattle.ownership_lowering_laws.proofs.LoweredTypingLaws.Sound.{Sound, SoundBlock, SoundFunction}

-- where the switch that goes to a block stands
pub record SwitchFrom (f : Function) (block : ℕ) (s : Switched) : Type 0 where
  pub from : Block
  pub place : ℕ
  pub is_block : slice_get f.blocks place ≡ Some from
  pub is_switch : from.terminator.op ≡ op.SwitchEnum
  pub edge : Edge
  pub index : ℕ
  pub is_edge : slice_get from.terminator.edges index ≡ Some edge
  pub goes : is_to block edge ≡ true
  pub operand : first_value from.terminator ≡ Some s.operand
  pub default : s.is_default ≡ is_none edge.case_of

switch_op : (o : Op) → ending_of o ≡ ending.Cases → o ≡ op.SwitchEnum
switch_op op.SwitchEnum e = refl
switch_op _ e = cc

pub switch_from : (f : Function) (block : ℕ) (s : Switched) → switch_to f block ≡ Some s → SwitchFrom f block s
switch_from f block s e =
    let r = first_from (switches_from block) f.blocks s e in
    at r.0 r.1 r.2 (ending_of r.1.terminator.op) refl r.3
  where
    at : (k : ℕ) (b : Block) → slice_get f.blocks k ≡ Some b → (x : Ending) → ending_of b.terminator.op ≡ x
        → slice_get (switches_by x block b.terminator) 0 ≡ Some s → SwitchFrom f block s
    at k b is ending.Inside x e = cc
    at k b is ending.OneBranch x e = cc
    at k b is ending.TwoBranches x e = cc
    at k b is ending.Cases x e =
        let kept = kept_first (edge_to block b.terminator) b.terminator.edges s e in
        let goes = where_true (kept.1.block.0 == block) (option_map (switched_by kept.1) (first_value b.terminator)) s kept.3 in
        let v = mapped_from (switched_by kept.1) (first_value b.terminator) s goes.1 in
        record {
          from = b;
          place = k;
          is_block = is;
          is_switch = switch_op b.terminator.op x;
          edge = kept.1;
          index = kept.0;
          is_edge = kept.2;
          goes = goes.0;
          operand = v.1 ∙ ap (λ z. Some z.operand) v.2;
          default = ap (λ z. z.is_default) (sym v.2);
        }
    at k b is ending.Return x e = cc
    at k b is ending.Unreachable x e = cc

-- 209, part by part
pub record Kept (m : Module) (f : Function) (t : TypeName) (es : List Edge) : Type 0 where
  pub of_enum : names_other_case (declarations_of m) t es ≡ false
  pub once : repeats_case (declarations_of m) t es ≡ false
  pub all_there : leaves_out_case (declarations_of m) t es ≡ false
  pub alone : list_all (is_alone f) es ≡ true
  pub cases : list_all (fits_case (declarations_of m) f t) es ≡ true
  pub defaults : list_all (fits_default f t) es ≡ true

kept_parts : (m : Module) (f : Function) (t : TypeName) (es : List Edge) → switches_wrongly (declarations_of m) f es (Some t) ≡ false → Kept m f t es
kept_parts m f t es right =
    let one = names_other_case (declarations_of m) t es in
    let two = one || repeats_case (declarations_of m) t es in
    let three = two || leaves_out_case (declarations_of m) t es in
    let four = three || shares_block f es in
    let five = four || misfits_payload (declarations_of m) f t es in
    let whole = or_parts five (misfits_default f t es) right in
    let without_default = or_parts four (misfits_payload (declarations_of m) f t es) whole.0 in
    let without_payload = or_parts three (shares_block f es) without_default.0 in
    let without_block = or_parts two (leaves_out_case (declarations_of m) t es) without_payload.0 in
    let first = or_parts one (repeats_case (declarations_of m) t es) without_block.0 in
    record {
      of_enum = first.0;
      once = first.1;
      all_there = without_block.1;
      alone = not-false _ without_payload.1;
      cases = not-false _ without_default.1;
      defaults = not-false _ whole.1;
    }

module _ (m : Module) (f : Function) (sound : SoundFunction m f) where
  pub sound_block : (k : ℕ) (b : Block) → slice_get f.blocks k ≡ Some b → SoundBlock m f b
  sound_block k b is = each_at (SoundBlock m f) f.blocks k b sound.blocks is

  -- a switch of a typed function
  pub record IsSwitch (i : Inst) : Type 0 where
    pub ty : TypeName
    pub typed : written 0 i ≡ Some ty
    pub kept : Kept m f ty i.edges

  pub is_switch : (i : Inst) → Sound m f i → i.op ≡ op.SwitchEnum → IsSwitch i
  is_switch i s is =
      let it = taken_type (where_it (is_enum (declarations_of m)) (written 0 i)) (subst (λ o. is_some (given_by o (declarations_of m) i) ≡ true) is s.keeps) in
      let found = where_found (is_enum (declarations_of m)) (written 0 i) it.0 it.1 in
      let right : switches_wrongly (declarations_of m) f i.edges (written 0 i) ≡ false =
      subst (λ o. has_wrong_cases_by o (declarations_of m) f i ≡ false) is s.cases in
      record {
        ty = it.0;
        typed = found.0;
        kept = kept_parts m f it.0 i.edges (subst (λ w. switches_wrongly (declarations_of m) f i.edges w ≡ false) found.0 right);
      }

  -- an edge to the block of a case or a default is the one of the switch
  pub lone : (k l i j : ℕ) (b c : Block) (e x : Edge) → slice_get f.blocks k ≡ Some b → slice_get b.terminator.edges i ≡ Some e
      → b.terminator.op ≡ op.SwitchEnum
      → slice_get f.blocks l ≡ Some c → slice_get c.terminator.edges j ≡ Some x → is_to e.block.0 x ≡ true → (b ≡ c) × (e ≡ x)
  lone k l i j b c e x is at switch other there goes =
      let s = is_switch b.terminator (sound_block k b is).end.sound switch in
      let one : incoming f e.block.0 ≡ 1 = eqb-true (incoming f e.block.0) 1 (passes_at (is_alone f) b.terminator.edges i e s.kept.alone at) in
      let few : count_by (is_to e.block.0) (flat_map edges_of_block f.blocks) ≤ 1 = omega arith in
      only_within edges_of_block (is_to e.block.0) f.blocks k l i j b c e x few is at (eq-eqb e.block.0 e.block.0 refl) other there goes

  -- ---- which blocks keep their arguments

  -- none goes to the entry
  pub entry_kept : default_operand (switch_to f 0) ≡ []
  unfolding goes_to_entry
  entry_kept = at (switch_to f 0) refl
    where
      at : (o : Option Switched) → switch_to f 0 ≡ o → default_operand o ≡ []
      at None e = refl
      at (Some s) e =
          let x = switch_from f 0 s e in
          let never = fails_at is_to_entry x.from.terminator.edges x.index x.edge (sound_block x.place x.from x.is_block).end.sound.entry x.is_edge in
          let goes : is_to_entry x.edge ≡ true = x.goes in
          cc

  -- a branch goes to a block to which no switch goes
  pub branch_kept : (k j : ℕ) (b : Block) (e : Edge) → slice_get f.blocks k ≡ Some b → slice_get b.terminator.edges j ≡ Some e
      → (b.terminator.op ≡ op.SwitchEnum → ⊥)
      → default_operand (switch_to f e.block.0) ≡ []
  branch_kept k j b e is at other = by (switch_to f e.block.0) refl
    where
      by : (o : Option Switched) → switch_to f e.block.0 ≡ o → default_operand o ≡ []
      by None h = refl
      by (Some s) h =
          let x = switch_from f e.block.0 s h in
          let there : x.edge.block.0 ≡ e.block.0 = eqb-true x.edge.block.0 e.block.0 x.goes in
          let one = lone x.place k x.index j x.from b x.edge e x.is_block x.is_edge x.is_switch is at (eq-eqb e.block.0 x.edge.block.0 (sym there)) in
          absurd (other (ap (λ c. c.terminator.op) (sym one.0) ∙ x.is_switch))

  -- the switch that goes to the block of an edge of a switch is this one
  same_edge : (k j : ℕ) (b : Block) (e : Edge) → slice_get f.blocks k ≡ Some b → slice_get b.terminator.edges j ≡ Some e → b.terminator.op ≡ op.SwitchEnum
      → (s : Switched) → switch_to f e.block.0 ≡ Some s → s.is_default ≡ is_none e.case_of
  same_edge k j b e is at switch s h =
      let x = switch_from f e.block.0 s h in
      let one = lone k x.place j x.index b x.from e x.edge is at switch x.is_block x.is_edge x.goes in
      x.default ∙ ap (λ (y : Edge). is_none y.case_of) (sym one.1)

  pub case_kept : (k j : ℕ) (b : Block) (e : Edge) → slice_get f.blocks k ≡ Some b → slice_get b.terminator.edges j ≡ Some e → b.terminator.op ≡ op.SwitchEnum
      → has_case e ≡ true
      → default_operand (switch_to f e.block.0) ≡ []
  case_kept k j b e is at switch case = by (switch_to f e.block.0) refl
    where
      by : (o : Option Switched) → switch_to f e.block.0 ≡ o → default_operand o ≡ []
      by None h = refl
      by (Some s) h =
          let none : s.is_default ≡ false = same_edge k j b e is at switch s h ∙ ap not case in
          ap (λ d. cond d (s.operand ∷ []) []) none

  -- a default's block has a switch that goes to it by its default
  pub default_goes : (k j : ℕ) (b : Block) (e : Edge) → slice_get f.blocks k ≡ Some b → slice_get b.terminator.edges j ≡ Some e
      → b.terminator.op ≡ op.SwitchEnum → has_case e ≡ false
      → (v : ValueId) × (default_operand (switch_to f e.block.0) ≡ v ∷ [])
  default_goes k j b e is at switch default = by (switch_to f e.block.0) refl
    where
      i : Inst
      i = b.terminator

      has_value : is_some (first_value i) ≡ true
      has_value = at_first i.operands (ap is_some (is_switch i (sound_block k b is).end.sound switch).typed)
        where
          at_first : (os : List Operand) → is_some (option_and_then type_of (slice_get os 0)) ≡ true → is_some (option_map value_of (slice_get os 0)) ≡ true
          at_first [] h = cc
          at_first (o ∷ os) h = refl

      one_there : is_some (edge_to e.block.0 i e) ≡ true
      one_there =
          ap (λ t. is_some (if t then option_map (switched_by e) (first_value i) else None)) (eq-eqb e.block.0 e.block.0 refl)
          ∙ mapped (first_value i) has_value
        where
          mapped : (o : Option ValueId) → is_some o ≡ true → is_some (option_map (switched_by e) o) ≡ true
          mapped None h = cc
          mapped (Some v) h = refl

      some_switch : is_some (switch_to f e.block.0) ≡ true
      some_switch =
          some_first (switches_from e.block.0) f.blocks k b is
          (ap (λ o. is_some (slice_get (switches_by (ending_of o) e.block.0 i) 0)) switch ∙ some_kept (edge_to e.block.0 i) i.edges j e at one_there)

      by : (o : Option Switched) → switch_to f e.block.0 ≡ o → (v : ValueId) × (default_operand o ≡ v ∷ [])
      by None h = let none : is_some (switch_to f e.block.0) ≡ false = ap is_some h in let some = some_switch in cc
      by (Some s) h =
          let yes : s.is_default ≡ true = same_edge k j b e is at switch s h ∙ ap not default in
          (s.operand, ap (λ d. cond d (s.operand ∷ []) []) yes)

  -- ---- what a default hands over is of the type of its block's argument

  pub record DefaultTyped (block : ℕ) (v : ValueId) : Type 0 where
    pub ty : TypeName
    pub value : type_at (value_types (declarations_of m) f) v.0 ≡ Some ty
    pub args : Each (λ a. a.ty ≡ ty) (args_of f block)

  pub default_typed : (block : ℕ) (s : Switched) → switch_to f block ≡ Some s → s.is_default ≡ true → DefaultTyped block s.operand
  default_typed block s e default =
      let x = switch_from f block s e in
      let i = x.from.terminator in
      let end = (sound_block x.place x.from x.is_block).end.sound in
      let sw = is_switch i end x.is_switch in
      let o = mapped_from value_of (slice_get i.operands 0) s.operand x.operand in
      let typed : o.0.ty ≡ Some sw.ty = ap (option_and_then type_of) (sym o.1) ∙ sw.typed in
      let none : has_case x.edge ≡ false = no_case x.edge.case_of (sym x.default ∙ default) in
      let there : x.edge.block.0 ≡ block = eqb-true x.edge.block.0 block x.goes in
      let fits : is_default_argument f.form sw.ty (args_of f x.edge.block.0) ≡ true =
      or_second (has_case x.edge) _ none (passes_at (fits_default f sw.ty) i.edges x.index x.edge sw.kept.defaults x.is_edge) in
      record {
        ty = sw.ty;
        value =
            ap (λ v. type_at (value_types (declarations_of m) f) v.0) (sym o.2)
            ∙ typed_at (value_types (declarations_of m) f) i.operands end.written 0 o.0 sw.ty o.1 typed;
        args = all_of f.form sw.ty (args_of f block) (subst (λ k. is_default_argument f.form sw.ty (args_of f k) ≡ true) there fits);
      }
    where
      no_case : (o : Option Member) → is_none o ≡ true → is_some o ≡ false
      no_case None h = refl
      no_case (Some n) h = cc

      all_of : (form : Form) (t : TypeName) (args : List BlockArg) → is_default_argument form t args ≡ true → Each (λ a. a.ty ≡ t) args
      all_of form t [] h = tt
      all_of form t (a ∷ []) h = (same_types a.ty t (both_second (not (is_lowered form)) (is_same_type a.ty t) h), tt)
      all_of form t (a ∷ b ∷ more) h = cc
