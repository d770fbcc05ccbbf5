-- A function in which a copy is lent keeps the rules on kinds.
use Rattle.std.proofs.Common.{◌≡◌, ℕ, ◌<◌, ◌≤◌, List, [], ◌∷◌, ◌++◌, length, map, refl, sym, ap, ap₂, ◌∙◌, subst, arith, Bool, Option, Some, None, true, false, ◌⊎◌, inl, inr}
use Rattle.std.specs.Prelude.{◌||◌, ◌==◌, ◌&&◌, Contains, cond, find, is_none, not, option_map, slice_get, unwrap_or}
use Rattle.std.specs.List.{flat_map, list_any}
use Rattle.std.proofs.lemmas.Bool.{cases_lt, eq-eqb, eqb-true}
use Rattle.std.proofs.lemmas.Option.{slice_get_past}
use Rattle.instruction_table.specs.Forms.{ending_of, result_kind_of, roles_of}
use Rattle.instruction_table.specs.declared.entries.Ending.{Ending}
use Rattle.instruction_table.specs.declared.entries.Ending.TheVariants as ending
use Rattle.instruction_table.specs.declared.entries.ResultKind.{ResultKind}
use Rattle.instruction_table.specs.declared.entries.ResultKind.TheVariants.{NoneResult, OwnedResult, ScopeResult, AddressResult, ForwardedResult, OperandResult}
use Rattle.instruction_table.specs.declared.entries.Role.{Role}
use Rattle.instruction_table.specs.declared.entries.Role.TheVariants as role
use Rattle.instruction_table.specs.declared.op.Op.TheVariants as op
use Rattle.sil_cfg_items.specs.Roles.{by_row, conventions_in, roles_for, taken_along, taken_as, taken_each}
use Rattle.sil_cfg_items.specs.declared.taken.Taken.{Taken}
use Rattle.numbered_form.specs.Lists.{Each}
use Rattle.numbered_form.proofs.Lists.{empty_is}
use Rattle.numbered_form.specs.Numbering.{values_of}
use Rattle.numbered_form.specs.inner.Parts.{has_edges, has_operands}
use Rattle.ownership_kinds_chains.specs.OwnershipChains.Chains.{Chain, IsCyclic, more, one}
use Rattle.copy_pairing_model.specs.ownership_kinds_origins.Facts.{kind_in, kind_of_facts}
use Rattle.sil_verifier_trails.specs.ownership_kinds.Statics.{HasKinds, IsDefinedAt, IsOnRing, all_taken, forwards, forwards_by, is_annotated_well, is_lacking_default, is_mismatch, is_owned}
use Rattle.sil_verifier_trails.specs.ownership_kinds.Statics.{is_guaranteed}
use Rattle.sil_verifier_trails.specs.ownership_kinds.Statics.{lacks_argument, lacks_by, mixed_among, mixed_operand, needs_argument, no_arguments}
use Rattle.sil_verifier_trails.specs.ownership_kinds.Statics.IsBroken.{annotated, lacking, mismatch, mixed, on_ring}
use Rattle.sil_verifier_trails.specs.ownership_kinds.Statics.IsDefinedAt.{argument, result}
use Rattle.copy_pairing_model.specs.ownership_kinds_origins.Origins.{definitions_of}
use Rattle.copy_pairing_model.specs.ownership_kinds_origins.Switched.{switch_to}
use Rattle.copy_pairing_model.specs.ownership_kinds_origins.declared.switched.Switched.{Switched}
use Rattle.numbered_form.specs.PointChecks.Points.{IsAt}
use Rattle.sil_ast.specs.declared.function.ArgKind.{ArgKind}
use Rattle.sil_ast.specs.declared.function.Block.{Block}
use Rattle.sil_ast.specs.declared.function.Function.{Function}
use Rattle.sil_ast.specs.declared.inst.Edge.{Edge}
use Rattle.sil_ast.specs.declared.inst.Inst.{Inst}
use Rattle.sil_ast.specs.declared.operands.Operand.{Operand}
use Rattle.sil_ast.specs.declared.place.PointId.{PointId}
use Rattle.sil_ast.specs.declared.place.ValueId.{ValueId}
use Rattle.sil_rules.specs.declared.rule.Rule.TheVariants as rule
use Rattle.sil_types_declarations.specs.TypeDefinitions.Declarations.{Declarations}
use Rattle.sil_types_declarations.specs.TypeDefinitions.Measures.{is_trivial}
use Rattle.sil_types_declarations.specs.declared.type_definitions.kind.Kind.{Kind}
use Rattle.sil_types_declarations.specs.declared.type_definitions.kind.Kind.TheVariants as kind
use Rattle.numbered_form.proofs.ValueTables.Rows.{rows_count}
use Rattle.numbered_form.specs.ValueTables.Borrows.{arg_borrows, borrow_in, borrows as is_some_borrow, borrows_of, is_borrow, result_borrows}
use Rattle.numbered_form.specs.ValueTables.FirstValue.{first_value, value_of}
use Rattle.numbered_form.specs.declared.value_tables.borrows.Borrow.TheVariants.{NoBorrow}
use Rattle.copy_pairing_model.specs.Rewritten.{lent, lent_block, lent_inst, with_op}
use Rattle.copy_pairing_acceptance.proofs.LentFunctions.Avoided.{IsOther, hands_on, operands_avoid, switch_avoids}
use Rattle.copy_pairing_acceptance.proofs.LentFunctions.Facts.{copy_facts, other_facts}
use Rattle.copy_pairing_acceptance.proofs.LentFunctions.Graph.{block_lent, of_block}
use Rattle.copy_pairing_acceptance.proofs.LentFunctions.Insts.{Becomes, becomes, borrows, ends, stays}
use Rattle.copy_pairing_acceptance.proofs.LentFunctions.Lists.{any_each, each_in, each_map, each_weaker}
use Rattle.copy_pairing_acceptance.proofs.LentFunctions.Marks.{first, not_destroy, one_operand}
use Rattle.copy_pairing_acceptance.proofs.LentFunctions.Parts.{inst_results, values_lent}
use Rattle.copy_pairing_acceptance.proofs.LentFunctions.Ready.{Ready}
use Rattle.copy_pairing_acceptance.proofs.LentFunctions.Roles.{IsGentle, gentle_at, is_mild}
use Rattle.copy_pairing_acceptance.proofs.LentFunctions.Rows.{operands_lent, renamings_lent, switch_lent}
use Rattle.copy_pairing_acceptance.proofs.LentFunctions.ValueRows.{borrow_kept, borrowed_level, borrows_level, comes_from, lent_borrow, same_value}

mild_fits : (x : Role) (b : Bool) (k : Option Kind) → is_mild x ≡ true → is_mismatch b x k ≡ false
mild_fits role.Consumed b k m = absurd (let wrong : false ≡ true = m in cc)
mild_fits role.Used b k m = refl
mild_fits role.Lent b k m = absurd (let wrong : false ≡ true = m in cc)
mild_fits role.Forwarded b k m = refl
mild_fits role.AddressRole b k m = refl
mild_fits role.AnyRole b k m = refl
mild_fits role.ScopeRole b k m = absurd (let wrong : false ≡ true = m in cc)
mild_fits role.ByParameter b k m = refl
mild_fits role.Counted b k m = refl

forwarding : (x : ResultKind) → forwards_by x ≡ true → hands_on x ≡ true
forwarding NoneResult e = absurd (let wrong : false ≡ true = e in cc)
forwarding OwnedResult e = absurd (let wrong : false ≡ true = e in cc)
forwarding ScopeResult e = absurd (let wrong : false ≡ true = e in cc)
forwarding AddressResult e = absurd (let wrong : false ≡ true = e in cc)
forwarding ForwardedResult e = refl
forwarding OperandResult e = absurd (let wrong : false ≡ true = e in cc)

find_each : {A : Type 0} (p q : A → Bool) (xs : List A) → Each (λ x. p x ≡ q x) xs → find p xs ≡ find q xs
find_each p q [] h = refl
find_each p q (x ∷ xs) h = ap₂ (λ b o. cond b (Some x) o) h.0 (find_each p q xs h.1)

mapped : {A B : Type 0} (g : A → B) (o : Option A) (y : B) → option_map g o ≡ Some y → (x : A) × (o ≡ Some x) × (y ≡ g x)
mapped g None y e = absurd (let wrong : None ≡ Some y = e in cc)
mapped g (Some x) y e = (x, refl, cc)

is_true : (b : Bool) → b ≡ true → b ≡ false → ⊥
is_true b e h = let wrong : true ≡ false = sym e ∙ h in absurd (cc)

module _ (d : Declarations) (f : Function) (p : PointId) (c v : ValueId) (r : Ready d f p c v) where
  abbrev kinds : ValueId → Option Kind
  kinds = kind_in d f

  abbrev lent_kinds : ValueId → Option Kind
  lent_kinds = kind_in d (lent c f)

  pub kind_other : (w : ValueId) → IsOther c w → lent_kinds w ≡ kinds w
  kind_other w e = ap (option_map kind_of_facts) (other_facts d f p c v r w e)

  lent_kind : lent_kinds c ≡ Some kind.Guaranteed
  lent_kind = ap (option_map kind_of_facts) (copy_facts d f p c v r)

  old_kind : kinds c ≡ Some kind.Owned
  old_kind = ap (option_map kind_of_facts) r.owned

  apart : (w : ValueId) → IsOther c w → w.0 ≡ c.0 → ⊥
  apart w e same = let wrong : false ≡ true = sym e ∙ eq-eqb w.0 c.0 same in absurd (cc)

  -- a value other than the copy is a borrow just where it was
  pub borrow_other : (w : ValueId) → IsOther c w → borrow_in (borrows_of (lent c f)) w.0 ≡ borrow_in (borrows_of f) w.0
  borrow_other w e = by (cases_lt w.0 (length (values_of f.blocks)))
    where
      long : (g : Function) → length (borrows_of g) ≡ length (values_of g.blocks)
      long g = rows_count arg_borrows result_borrows borrows_level borrowed_level 0 g.blocks

      past : (g : Function) → length (values_of g.blocks) ≤ w.0 → borrow_in (borrows_of g) w.0 ≡ NoBorrow
      past g le =
          let level : length (borrows_of g) ≡ length (values_of g.blocks) = long g in
          ap (λ o. unwrap_or o NoBorrow) (slice_get_past (borrows_of g) w.0 (omega arith))

      by : (w.0 < length (values_of f.blocks)) ⊎ (length (values_of f.blocks) ≤ w.0) → borrow_in (borrows_of (lent c f)) w.0 ≡ borrow_in (borrows_of f) w.0
      by (inl lt) = borrow_kept d f p c v r w lt (apart w e)
      by (inr le) = past (lent c f) (subst (λ n. n ≤ w.0) (sym (ap length (values_lent c f))) le) ∙ sym (past f le)

  -- ---- 302

  old_chain : (a b : ValueId) → Chain (definitions_of d (lent c f)) a b → Chain (definitions_of d f) a b
  old_chain _ _ (one a b k) = one a b (subst (λ os. Contains os b) (operands_lent c d f a) k)
  old_chain _ _ (more a u b k h) = more a u b (subst (λ os. Contains os u) (operands_lent c d f a) k) (old_chain u b h)

  old_ring : (w : ValueId) → IsOnRing d (lent c f) w → IsOnRing d f w
  old_ring w (inl h) = inl (old_chain w w h)
  old_ring w (inr h) = inr (subst (λ rows. IsCyclic rows w) (renamings_lent c f) h)

  old_place : (w : ValueId) (n k : ℕ) → IsDefinedAt (lent c f) w n k → IsDefinedAt f w n k
  old_place w _ _ (result n k j at h) =
      let i = comes_from c f r.formed n k j at in
      result n k i.inst i.at (subst (λ vs. Contains vs w) (ap (λ (x : Inst). x.results) i.is ∙ inst_results c i.inst) h)
  old_place w _ _ (argument n b a is h e) =
      let x = mapped (lent_block c) (slice_get f.blocks n) b (sym (block_lent c f n) ∙ is) in
      argument n x.0 a x.1 (subst (λ (y : Block). Contains y.args a) x.2 h) e

  -- ---- 303

  unmixed : (n k : ℕ) (i j : Inst) (w : ValueId) → IsAt f n k i → Becomes c i j → mixed_operand lent_kinds j ≡ Some w → ⊥
  unmixed n k i _ w at (borrows e m) h = let wrong : None ≡ Some w = h in absurd (cc)
  unmixed n k i _ w at (ends e m) h = let wrong : None ≡ Some w = h in absurd (cc)
  unmixed n k i _ w at (stays e m) h = by (forwards i) refl
    where
      others : forwards i ≡ true → Each (λ (o : Operand). lent_kinds o.value ≡ kinds o.value) i.operands
      others q =
          each_weaker (λ (o : Operand). IsOther c o.value) (λ o. lent_kinds o.value ≡ kinds o.value) (λ o x. kind_other o.value x) i.operands
          (operands_avoid d f p c v r n k i at (forwarding (result_kind_of i.op) q))

      among : (b : Bool) → forwards i ≡ true → mixed_among lent_kinds b (map value_of i.operands) ≡ mixed_among kinds b (map value_of i.operands)
      among true q =
          find_each (λ u. is_guaranteed (lent_kinds u)) (λ u. is_guaranteed (kinds u)) (map value_of i.operands)
          (each_map (λ u. is_guaranteed (lent_kinds u) ≡ is_guaranteed (kinds u)) value_of i.operands
          (each_weaker (λ (o : Operand). lent_kinds o.value ≡ kinds o.value)
          (λ o. is_guaranteed (lent_kinds o.value) ≡ is_guaranteed (kinds o.value)) (λ o x. ap is_guaranteed x) i.operands (others q)))
      among false q = refl

      owned_same : forwards i ≡ true → list_any (λ (o : Operand). is_owned (lent_kinds o.value)) i.operands ≡ list_any (λ (o : Operand). is_owned (kinds o.value)) i.operands
      owned_same q =
          any_each (λ (o : Operand). is_owned (lent_kinds o.value)) (λ (o : Operand). is_owned (kinds o.value)) i.operands
          (each_weaker (λ (o : Operand). lent_kinds o.value ≡ kinds o.value) (λ o. is_owned (lent_kinds o.value) ≡ is_owned (kinds o.value)) (λ o x. ap is_owned x) i.operands (others q))

      by : (b : Bool) → forwards i ≡ b → ⊥
      by false q =
          let none : mixed_operand lent_kinds i ≡ None =
          ap (λ b. mixed_among lent_kinds (b && list_any (λ (o : Operand). is_owned (lent_kinds o.value)) i.operands) (map value_of i.operands)) q in
          let wrong : None ≡ Some w = sym none ∙ h in
          absurd (cc)
      by true q =
          let same : mixed_operand lent_kinds i ≡ mixed_operand kinds i =
          ap (λ b. mixed_among lent_kinds (forwards i && b) (map value_of i.operands)) (owned_same q)
          ∙ among (forwards i && list_any (λ (o : Operand). is_owned (kinds o.value)) i.operands) q in
          r.facts.kinds rule.MixedForwarding w n k (mixed w n k i at (sym same ∙ h))

  -- ---- 304

  abbrev Fits : Taken → Type 0
  Fits t = is_mismatch (is_borrow (lent c f) t.value) t.role (lent_kinds t.value) ≡ false

  abbrev Fitted : Taken → Type 0
  Fitted t = is_mismatch (is_borrow f t.value) t.role (kinds t.value) ≡ false

  gentle_fits : (t : Taken) → IsGentle d f p c v r t → Fitted t → Fits t
  gentle_fits t g h = by (t.value.0 == c.0) refl
    where
      by : (b : Bool) → (t.value.0 == c.0) ≡ b → Fits t
      by false e = ap₂ (λ x k. is_mismatch x t.role k) (ap is_some_borrow (borrow_other t.value e)) (kind_other t.value e) ∙ h
      by true e = mild_fits t.role (is_borrow (lent c f) t.value) (lent_kinds t.value) (g (eqb-true t.value.0 c.0 e))

  old_fits : (n k : ℕ) (i : Inst) (t : Taken) → IsAt f n k i → Contains (all_taken i) t → Fitted t
  old_fits n k i t at h = by (is_mismatch (is_borrow f t.value) t.role (kinds t.value)) refl
    where
      by : (b : Bool) → is_mismatch (is_borrow f t.value) t.role (kinds t.value) ≡ b → Fitted t
      by false e = e
      by true e = absurd (r.facts.kinds rule.KindMismatch t.value n k (mismatch n k i t at h e))

  gentle_inst : (n k : ℕ) (i : Inst) (t : Taken) → IsAt f n k i → Each (IsGentle d f p c v r) (all_taken i) → Contains (all_taken i) t → Fits t
  gentle_inst n k i t at all h = gentle_fits t (each_in (IsGentle d f p c v r) (all_taken i) t all h) (old_fits n k i t at h)

  fits : (n k : ℕ) (i j : Inst) (t : Taken) → IsAt f n k i → Becomes c i j → Contains (all_taken j) t → Fits t
  fits n k i _ t at (borrows e m) h =
      let same : all_taken (with_op op.BeginBorrow i) ≡ all_taken i =
      ap (λ x. taken_each i.operands (roles_for (roles_of x) (conventions_in i) (length i.operands)) ++ flat_map taken_along i.edges) (sym e) in
      gentle_inst n k i t at (gentle_at d f p c v r n k i at (not_destroy d f p c v r i op.CopyValue e refl)) (subst (λ ts. Contains ts t) same h)
  fits n k i _ t at (ends e m) h =
      let parts = r.formed.parts n k i at in
      let alone = one_operand i.operands (subst (λ x. has_operands x i.operands ≡ true) e parts.operands) in
      let none : i.edges ≡ [] = empty_is i.edges (subst (λ x. has_edges x i.edges ≡ true) e parts.edges) in
      let taken : (alone.operand.value.0 == c.0) ≡ true =
      first (alone.operand.value.0 == c.0) (sym (ap (list_any (λ (x : Operand). x.value.0 == c.0)) alone.alone) ∙ m) in
      let is : alone.operand.value ≡ c = same_value alone.operand.value c (eqb-true alone.operand.value.0 c.0 taken) in
      let all : all_taken (with_op op.EndBorrow i) ≡ taken_as alone.operand (by_row role.ScopeRole) ∷ [] =
      ap₂ (λ os es. taken_each os (roles_for (roles_of op.EndBorrow) (conventions_in i) (length os)) ++ flat_map taken_along es) alone.alone none in
      each_in Fits (taken_as alone.operand (by_row role.ScopeRole) ∷ []) t
      (ap (λ b. not b) (ap (is_borrow (lent c f)) is ∙ ap is_some_borrow (lent_borrow d f p c v r)), tt)
      (subst (λ ts. Contains ts t) all h)
  fits n k i _ t at (stays e m) h = gentle_inst n k i t at (gentle_at d f p c v r n k i at m) h

  -- ---- 305

  annotated_same : (n : ℕ) (o : Option Switched) → switch_to f n ≡ o → (trivial : Bool) (a : ArgKind) → is_annotated_well lent_kinds o trivial a ≡ is_annotated_well kinds o trivial a
  annotated_same n None e trivial a = refl
  annotated_same n (Some s) e trivial a =
      ap (λ k. is_annotated_well (λ u. k) (Some s) trivial a) (kind_other s.operand (switch_avoids d f p c v r n s e))

  lacking_same : (e : Edge) → is_lacking_default (lent c f) e ≡ is_lacking_default f e
  lacking_same e = ap (λ b. is_none e.case_of && b) (of_block c f no_arguments (λ block. refl) e.block.0)

  any_lacking : (es : List Edge) → list_any (is_lacking_default (lent c f)) es ≡ list_any (is_lacking_default f) es
  any_lacking [] = refl
  any_lacking (e ∷ es) = ap₂ (λ a b. a || b) (lacking_same e) (any_lacking es)

  lacks_same : (x : Ending) (i : Inst) → lacks_by x (lent c f) i ≡ lacks_by x f i
  lacks_same ending.Inside i = refl
  lacks_same ending.OneBranch i = refl
  lacks_same ending.TwoBranches i = refl
  lacks_same ending.Cases i = any_lacking i.edges
  lacks_same ending.Return i = refl
  lacks_same ending.Unreachable i = refl

  needs_same : (w : ValueId) → needs_argument (lent_kinds w) ≡ needs_argument (kinds w)
  needs_same w = by (w.0 == c.0) refl
    where
      by : (b : Bool) → (w.0 == c.0) ≡ b → needs_argument (lent_kinds w) ≡ needs_argument (kinds w)
      by false e = ap needs_argument (kind_other w e)
      by true e =
          let is : w ≡ c = same_value w c (eqb-true w.0 c.0 e) in
          ap needs_argument (ap lent_kinds is ∙ lent_kind) ∙ sym (ap needs_argument (ap kinds is ∙ old_kind))

  not_lacking : (n k : ℕ) (i j : Inst) (w : ValueId) → IsAt f n k i → Becomes c i j → lacks_argument (lent c f) j ≡ true → first_value j ≡ Some w
      → needs_argument (lent_kinds w) ≡ true → ⊥
  not_lacking n k i _ w at (borrows e m) h u needs = let wrong : false ≡ true = h in absurd (cc)
  not_lacking n k i _ w at (ends e m) h u needs = let wrong : false ≡ true = h in absurd (cc)
  not_lacking n k i _ w at (stays e m) h u needs =
      r.facts.kinds rule.ArgumentKind w n k (lacking n k i w at (sym (lacks_same (ending_of i.op) i) ∙ h) u (sym (needs_same w) ∙ needs))

  -- ---- all

  pub has_kinds : HasKinds d (lent c f)
  has_kinds _ _ _ _ (on_ring w n k ring place) = r.facts.kinds rule.CyclicForwarding w n k (on_ring w n k (old_ring w ring) (old_place w n k place))
  has_kinds _ _ _ _ (mixed w n k j at e) =
      let i = comes_from c f r.formed n k j at in
      unmixed n k i.inst (lent_inst c i.inst) w i.at (becomes c i.inst) (sym (ap (mixed_operand lent_kinds) i.is) ∙ e)
  has_kinds _ _ _ _ (mismatch n k j t at h e) =
      let i = comes_from c f r.formed n k j at in
      is_true (is_mismatch (is_borrow (lent c f) t.value) t.role (lent_kinds t.value)) e
      (fits n k i.inst (lent_inst c i.inst) t i.at (becomes c i.inst) (subst (λ x. Contains (all_taken x) t) i.is h))
  has_kinds _ _ _ _ (annotated n b a lt is h e) =
      let x = mapped (lent_block c) (slice_get f.blocks n) b (sym (block_lent c f n) ∙ is) in
      let same : is_annotated_well lent_kinds (switch_to (lent c f) n) (is_trivial d a.ty) a.kind ≡ is_annotated_well kinds (switch_to f n) (is_trivial d a.ty) a.kind =
      ap (λ o. is_annotated_well lent_kinds o (is_trivial d a.ty) a.kind) (switch_lent c f n) ∙ annotated_same n (switch_to f n) refl (is_trivial d a.ty) a.kind in
      r.facts.kinds rule.ArgumentKind a.value n 0 (annotated n x.0 a lt x.1 (subst (λ (y : Block). Contains y.args a) x.2 h) (sym same ∙ e))
  has_kinds _ _ _ _ (lacking n k j w at lacks u needs) =
      let i = comes_from c f r.formed n k j at in
      not_lacking n k i.inst (lent_inst c i.inst) w i.at (becomes c i.inst)
      (subst (λ x. lacks_argument (lent c f) x ≡ true) i.is lacks) (sym (ap first_value i.is) ∙ u) needs
