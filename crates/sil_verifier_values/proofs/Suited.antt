-- The kinds of operands by their roles, of what is forwarded, and of results.
use Rattle.std.proofs.Common.{◌≡◌, ℕ, List, [], ◌∷◌, length, map, take, refl, sym, ap, ap₂, ◌∙◌, Bool, true, false, cond, ◌⊎◌, inl, inr, Option, Some, None}
use Rattle.std.specs.Prelude.{◌&&◌, ◌||◌, Contains, find, option_map, slice_get, unwrap_or}
use Rattle.std.specs.List.{flat_map, list_any}
use Rattle.std.proofs.lemmas.Bool.{not-false, or_parts}
use Rattle.std.proofs.lemmas.List.Elements.{Contains-append_cases, Contains-append_left, Contains-append_right}
use Rattle.instruction_table.specs.Forms.{result_kind_of}
use Rattle.instruction_table.specs.declared.entries.ResultKind.{ResultKind}
use Rattle.instruction_table.specs.declared.entries.ResultKind.TheVariants.{NoneResult, OwnedResult, ScopeResult, AddressResult, ForwardedResult, OperandResult}
use Rattle.instruction_table.specs.declared.entries.Role.{Role}
use Rattle.instruction_table.specs.declared.entries.Role.TheVariants as role
use Rattle.sil_cfg_items.specs.Items.{item_taken, taken_along_in, taken_in}
use Rattle.sil_cfg_items.specs.Parts.{edge_in, inst_at, terminator_of}
use Rattle.sil_cfg_items.specs.Roles.{taken_along, taken_by}
use Rattle.sil_cfg_items.specs.declared.taken.Taken.{Taken}
use Rattle.numbered_form.proofs.Lists.{each_both, each_weaker}
use Rattle.numbered_form.specs.Lists.{Each}
use Rattle.holder_model_typing.specs.ownership_kinds_chains.OwnershipChains.Chains.{operands_at}
use Rattle.holder_model_typing.specs.ownership_kinds_chains.OwnershipChains.Facts.{by_kind, facts_with, forwarded, is_guaranteed as guarantees, is_owned as owns, origin_at, told_by}
use Rattle.holder_model_typing.specs.ownership_kinds_chains.declared.ownership_chains.definition.Origin.TheVariants as origin
use Rattle.holder_model_typing.specs.ownership_kinds_chains.declared.ownership_chains.facts.Facts.{Facts}
use Rattle.holder_model_typing.specs.ownership_kinds_origins.Facts.{facts_in, kind_in, kind_of_facts}
use Rattle.sil_verifier_accepted.specs.ownership_kinds.Statics.{all_taken, forwards, is_guaranteed, is_mismatch, is_owned, mixed_among, mixed_operand}
use Rattle.sil_verifier_accepted.specs.ownership_kinds.Statics.IsBroken.{mismatch, mixed}
use Rattle.holder_model_typing.specs.ownership_kinds_origins.Origins.{arg_definition_by, chain_operands, definitions_of, is_trivial_or_untyped, is_zero, result_origin}
use Rattle.holder_model_typing.specs.ownership_kinds_origins.Switched.{switch_to}
use Rattle.holder_model_typing.specs.ownership_kinds_origins.declared.switched.Switched.{Switched}
use Rattle.numbered_form.specs.PointChecks.Points.{IsAt}
use Rattle.holder_model_typing.proofs.RunTypingLaws.Rows.Finding.{never_passes}
use Rattle.sil_ast.specs.declared.function.ArgKind.{ArgKind}
use Rattle.sil_ast.specs.declared.function.ArgKind.TheVariants as annotation
use Rattle.sil_ast.specs.declared.function.Function.{Function}
use Rattle.sil_ast.specs.declared.inst.Edge as edge
use Rattle.sil_ast.specs.declared.inst.Inst as inst
use Rattle.sil_ast.specs.declared.module.Module.{Module}
use Rattle.sil_ast.specs.declared.operands.Operand.{Operand}
use Rattle.sil_ast.specs.declared.place.PointId.{PointId}
use Rattle.sil_ast.specs.declared.place.ValueId.{ValueId}
use Rattle.sil_cfg.specs.declared.item.Item.{Item}
use Rattle.sil_cfg.specs.declared.item.Item.TheVariants.{Entry, Inst, Edge, Exit}
use Rattle.sil_rules.specs.declared.rule.Rule.TheVariants as rule
use Rattle.holder_model_typing.specs.sil_types.Typing.RowTypes.{made_types}
use Rattle.holder_model_typing.specs.sil_types_declarations.TypeDefinitions.Declarations.{Declarations, declarations_of}
use Rattle.holder_model_typing.specs.sil_types_declarations.TypeDefinitions.Measures.{is_trivial}
use Rattle.holder_model_typing.specs.sil_types_declarations.declared.type_definitions.kind.Kind.{Kind}
use Rattle.holder_model_typing.specs.sil_types_declarations.declared.type_definitions.kind.Kind.TheVariants as kind
use Rattle.numbered_form.specs.ValueTables.Borrows.{is_borrow}
use Rattle.numbered_form.specs.ValueTables.FirstValue.{value_of}
use Rattle.sil_verifier_values.specs.inner.Known.{IsAcceptedBody, IsValue, facts_at, kind_at, type_in}
use Rattle.sil_verifier_values.specs.inner.Operands.{AreForwarded, AreResultsOfKinds, AreSuited, AreTrivialPlain, Forwards, HasNoOwner, MayEnd, MayLend}
use Rattle.sil_verifier_values.specs.inner.Operands.{SuitsRole, kind_by_row, kind_of_result, kind_together}
use Rattle.sil_verifier_values.proofs.Accepted.{counted, has_kinds, typed}
use Rattle.sil_verifier_values.proofs.Counted.{in_all, nothing_in}
use Rattle.sil_verifier_values.proofs.Defined.{IsDefined, a_result, an_argument, defined_so}
use Rattle.sil_verifier_values.proofs.Extracts.{extract_row}
use Rattle.sil_verifier_values.proofs.Facts.{facts_so, value_or_none}
use Rattle.sil_verifier_values.proofs.Places.{argument_is_value, result_is_value}
use Rattle.sil_verifier_values.proofs.TableRows.{argument_rows, result_rows}

-- ---- kinds that may be unknown

not_guaranteed : (o : Option Facts) → is_guaranteed (option_map kind_of_facts o) ≡ false
    → ((unwrap_or o (facts_with kind.Plain [])).kind ≡ kind.Owned) ⊎ ((unwrap_or o (facts_with kind.Plain [])).kind ≡ kind.Plain)
not_guaranteed None e = inr refl
not_guaranteed (Some x) e = at x.kind e
  where
    at : (k : Kind) → is_guaranteed (Some k) ≡ false → (k ≡ kind.Owned) ⊎ (k ≡ kind.Plain)
    at kind.Owned e = inl refl
    at kind.Guaranteed e = cc
    at kind.Plain e = inr refl

not_owned : (o : Option Facts) → is_owned (option_map kind_of_facts o) ≡ false
    → ((unwrap_or o (facts_with kind.Plain [])).kind ≡ kind.Guaranteed) ⊎ ((unwrap_or o (facts_with kind.Plain [])).kind ≡ kind.Plain)
not_owned None e = inr refl
not_owned (Some x) e = at x.kind e
  where
    at : (k : Kind) → is_owned (Some k) ≡ false → (k ≡ kind.Guaranteed) ⊎ (k ≡ kind.Plain)
    at kind.Owned e = cc
    at kind.Guaranteed e = inl refl
    at kind.Plain e = inr refl

-- ---- what an item takes, its instruction takes

record TakenAt (f : Function) (t : Taken) : Type 0 where
  block : ℕ
  index : ℕ
  inst : inst.Inst
  here : IsAt f block index inst
  taken : Contains (all_taken inst) t

pub by_operand : (i : inst.Inst) (t : Taken) → Contains (taken_by i) t → Contains (all_taken i) t
by_operand i t c = Contains-append_left (taken_by i) (flat_map taken_along i.edges) t c

module _ (m : Module) (n : ℕ) (f : Function) (a : IsAcceptedBody m n f) where
  abbrev d : Declarations
  d = declarations_of m

  at_end : (b : ℕ) (i : inst.Inst) (t : Taken) → terminator_of f b ≡ Some i → Contains (all_taken i) t → TakenAt f t
  at_end b i t e c = let end = (typed m n f a).ends b i e in record { block = b; index = end.0; inst = i; here = end.2; taken = c }

  end_takes : (b : ℕ) (o : Option inst.Inst) (t : Taken) → terminator_of f b ≡ o → Contains (taken_in o) t → TakenAt f t
  end_takes b None t e c = absurd (nothing_in t c)
  end_takes b (Some i) t e c = at_end b i t e (by_operand i t c)

  edge_takes : (b k : ℕ) (o : Option inst.Inst) (t : Taken) → terminator_of f b ≡ o → Contains (taken_along_in (edge_in o k)) t → TakenAt f t
  edge_takes b k None t e c = absurd (nothing_in t c)
  edge_takes b k (Some i) t e c = at (slice_get i.edges k) refl c
    where
      at : (o : Option edge.Edge) → slice_get i.edges k ≡ o → Contains (taken_along_in o) t → TakenAt f t
      at None is c = absurd (nothing_in t c)
      at (Some x) is c = at_end b i t e (Contains-append_right (taken_by i) (flat_map taken_along i.edges) t (in_all taken_along i.edges k x t is c))

  inst_takes : (p : PointId) (o : Option inst.Inst) (t : Taken) → inst_at f p ≡ o → Contains (taken_in o) t → TakenAt f t
  inst_takes p None t e c = absurd (nothing_in t c)
  inst_takes p (Some i) t e c =
      record { block = p.block.0; index = p.index; inst = i; here = ((typed m n f a).inside p i e).1; taken = by_operand i t c }

  taken_at : (i : Item) (t : Taken) → Contains (item_taken f i) t → TakenAt f t
  taken_at Entry t c = absurd (nothing_in t c)
  taken_at (Inst p) t c = by (Contains-append_cases (taken_in (inst_at f p)) [] t c)
    where
      by : Contains (taken_in (inst_at f p)) t ⊎ Contains [] t → TakenAt f t
      by (inl h) = inst_takes p (inst_at f p) t refl h
      by (inr h) = absurd (nothing_in t h)
  taken_at (Edge e) t c = by (Contains-append_cases (taken_in (terminator_of f e.block.0)) (taken_along_in (edge_in (terminator_of f e.block.0) e.index)) t c)
    where
      by : Contains (taken_in (terminator_of f e.block.0)) t ⊎ Contains (taken_along_in (edge_in (terminator_of f e.block.0) e.index)) t → TakenAt f t
      by (inl h) = end_takes e.block.0 (terminator_of f e.block.0) t refl h
      by (inr h) = edge_takes e.block.0 e.index (terminator_of f e.block.0) t refl h
  taken_at (Exit p) t c = by (Contains-append_cases (taken_in (terminator_of f p.block.0)) [] t c)
    where
      by : Contains (taken_in (terminator_of f p.block.0)) t ⊎ Contains [] t → TakenAt f t
      by (inl h) = end_takes p.block.0 (terminator_of f p.block.0) t refl h
      by (inr h) = absurd (nothing_in t h)

  -- ---- 304: kinds by roles

  suits : (r : Role) (v : ValueId) → is_mismatch (is_borrow f v) r (kind_in d f v) ≡ false → SuitsRole d f r v
  suits role.Consumed v e = not_guaranteed (facts_in d f v) e
  suits role.Used v e = tt
  suits role.Lent v e = not_owned (facts_in d f v) e
  suits role.Forwarded v e = tt
  suits role.AddressRole v e = tt
  suits role.AnyRole v e = tt
  suits role.ScopeRole v e = not-false (is_borrow f v) e
  suits role.ByParameter v e = tt
  suits role.Counted v e = tt

  pub suits_at : (block index : ℕ) (i : inst.Inst) (t : Taken) → IsAt f block index i → Contains (all_taken i) t → SuitsRole d f t.role t.value
  suits_at block index i t here c =
      suits t.role t.value (never_passes _ (λ e. has_kinds m n f a rule.KindMismatch t.value block index (mismatch block index i t here c e)))

  -- ---- 303: what is forwarded

  find_none : (test : ValueId → Bool) (vs : List ValueId) → find test vs ≡ None → Each (λ v. test v ≡ false) vs
  find_none test [] e = tt
  find_none test (v ∷ vs) e = at (test v) refl e (find_none test vs)
    where
      at : (b : Bool) → test v ≡ b → cond b (Some v) (find test vs) ≡ None → (find test vs ≡ None → Each (λ w. test w ≡ false) vs) → Each (λ w. test w ≡ false) (v ∷ vs)
      at true is e rest = cc
      at false is e rest = (is, rest e)

  none_passes : (test : ValueId → Bool) (vs : List ValueId) → list_any test vs ≡ false → Each (λ v. test v ≡ false) vs
  none_passes test [] e = tt
  none_passes test (v ∷ vs) e = let both = or_parts (test v) (list_any test vs) e in (both.0, none_passes test vs both.1)

  any_map : (test : ValueId → Bool) (os : List Operand) → list_any test (map value_of os) ≡ list_any (λ o. test (value_of o)) os
  any_map test [] = refl
  any_map test (o ∷ os) = ap (λ b. test (value_of o) || b) (any_map test os)

  owns_so : (v : ValueId) → owns (kind_at d f v) ≡ is_owned (kind_in d f v)
  owns_so v = at (facts_in d f v)
    where
      at : (o : Option Facts) → owns (unwrap_or o (facts_with kind.Plain [])).kind ≡ is_owned (option_map kind_of_facts o)
      at None = refl
      at (Some x) = by x.kind
        where
          by : (k : Kind) → owns k ≡ is_owned (Some k)
          by kind.Owned = refl
          by kind.Guaranteed = refl
          by kind.Plain = refl

  owned_alike : ◌≡◌ {A = ValueId → Bool} (λ v. owns (kind_at d f v)) (λ v. is_owned (kind_in d f v))
  owned_alike = λ j v. owns_so v j

  may_end : (v : ValueId) → guarantees (kind_at d f v) ≡ false → MayEnd d f v
  may_end v e = at (kind_at d f v) e
    where
      at : (k : Kind) → guarantees k ≡ false → (k ≡ kind.Owned) ⊎ (k ≡ kind.Plain)
      at kind.Owned e = inl refl
      at kind.Guaranteed e = cc
      at kind.Plain e = inr refl

  may_lend : (v : ValueId) → owns (kind_at d f v) ≡ false → MayLend d f v
  may_lend v e = at (kind_at d f v) e
    where
      at : (k : Kind) → owns k ≡ false → (k ≡ kind.Guaranteed) ⊎ (k ≡ kind.Plain)
      at kind.Owned e = cc
      at kind.Guaranteed e = inl refl
      at kind.Plain e = inr refl

  no_owner : (v : ValueId) → owns (kind_at d f v) ≡ false → guarantees (kind_at d f v) ≡ false → HasNoOwner d f v
  no_owner v e g = at (kind_at d f v) e g
    where
      at : (k : Kind) → owns k ≡ false → guarantees k ≡ false → k ≡ kind.Plain
      at kind.Owned e g = cc
      at kind.Guaranteed e g = cc
      at kind.Plain e g = refl

  -- none is Guaranteed where one is Owned
  abbrev Unmixed : List ValueId → Type 0
  Unmixed vs = list_any (λ v. owns (kind_at d f v)) vs ≡ true → Each (λ v. guarantees (kind_at d f v) ≡ false) vs

  forwards_by : (vs : List ValueId) → Unmixed vs → Forwards d f (forwarded (facts_at d f) vs) vs
  forwards_by vs unmixed = at (list_any (λ v. owns (kind_at d f v)) vs) refl (list_any (λ v. guarantees (kind_at d f v)) vs) refl
    where
      at : (o : Bool) → list_any (λ v. owns (kind_at d f v)) vs ≡ o → (g : Bool) → list_any (λ v. guarantees (kind_at d f v)) vs ≡ g
          → Forwards d f (cond o kind.Owned (cond g kind.Guaranteed kind.Plain)) vs
      at true e g h = each_weaker (λ v. guarantees (kind_at d f v) ≡ false) (MayEnd d f) may_end vs (unmixed e)
      at false e true h = each_weaker (λ v. owns (kind_at d f v) ≡ false) (MayLend d f) may_lend vs (none_passes (λ v. owns (kind_at d f v)) vs e)
      at false e false h =
          each_both (λ v. owns (kind_at d f v) ≡ false) (λ v. guarantees (kind_at d f v) ≡ false) (HasNoOwner d f) no_owner vs
          (none_passes (λ v. owns (kind_at d f v)) vs e) (none_passes (λ v. guarantees (kind_at d f v)) vs h)

  not_mixed : (block index : ℕ) (i : inst.Inst) → IsAt f block index i → mixed_operand (kind_in d f) i ≡ None
  not_mixed block index i here = at (mixed_operand (kind_in d f) i) refl
    where
      at : (o : Option ValueId) → mixed_operand (kind_in d f) i ≡ o → mixed_operand (kind_in d f) i ≡ None
      at None e = e
      at (Some v) e = absurd (has_kinds m n f a rule.MixedForwarding v block index (mixed v block index i here e))

  pub forwarded_so : (block index : ℕ) (i : inst.Inst) → IsAt f block index i → forwards i ≡ true → Forwards d f (kind_together d f i) (map value_of i.operands)
  forwarded_so block index i here e = forwards_by (map value_of i.operands) unmixed
    where
      guarantees_so : (v : ValueId) → is_guaranteed (kind_in d f v) ≡ false → guarantees (kind_at d f v) ≡ false
      guarantees_so v h = at (facts_in d f v) h
        where
          at : (o : Option Facts) → is_guaranteed (option_map kind_of_facts o) ≡ false → guarantees (unwrap_or o (facts_with kind.Plain [])).kind ≡ false
          at None h = refl
          at (Some x) h = by x.kind h
            where
              by : (k : Kind) → is_guaranteed (Some k) ≡ false → guarantees k ≡ false
              by kind.Owned h = refl
              by kind.Guaranteed h = h
              by kind.Plain h = refl

      unmixed : Unmixed (map value_of i.operands)
      unmixed some =
          let any : list_any (λ (o : Operand). is_owned (kind_in d f o.value)) i.operands ≡ true =
          sym (ap (λ (test : ValueId → Bool). list_any (λ (o : Operand). test o.value) i.operands) owned_alike)
          ∙ (sym (any_map (λ v. owns (kind_at d f v)) i.operands) ∙ some) in
          let both : (forwards i && list_any (λ (o : Operand). is_owned (kind_in d f o.value)) i.operands) ≡ true = ap₂ (λ x y. x && y) e any in
          let none : find (λ v. is_guaranteed (kind_in d f v)) (map value_of i.operands) ≡ None =
          ap (λ b. mixed_among (kind_in d f) b (map value_of i.operands)) (sym both) ∙ not_mixed block index i here in
          each_weaker (λ v. is_guaranteed (kind_in d f v) ≡ false) (λ v. guarantees (kind_at d f v) ≡ false) guarantees_so (map value_of i.operands)
          (find_none (λ v. is_guaranteed (kind_in d f v)) (map value_of i.operands) none)

  -- ---- the kinds of results

  by_kind_is : (count : ℕ) (v : ValueId) (vs : List ValueId) (k : Kind) → (by_kind count v (facts_at d f) vs k).kind ≡ k
  by_kind_is count v vs kind.Owned = refl
  by_kind_is count v vs kind.Guaranteed = refl
  by_kind_is count v vs kind.Plain = refl

  -- an extract's first operand is its only one
  abbrev IsOnly : ResultKind → List ValueId → Type 0
  IsOnly k vs = k ≡ OperandResult → take 1 vs ≡ vs

  told_kind : (count : ℕ) (v : ValueId) (vs : List ValueId) (k : ResultKind) (trivial : Bool) → IsOnly k vs
      → (told_by count v (facts_at d f) (chain_operands k vs) (result_origin k trivial)).kind ≡ cond trivial kind.Plain (kind_by_row k (forwarded (facts_at d f) vs))
  told_kind count v vs NoneResult true only = refl
  told_kind count v vs NoneResult false only = refl
  told_kind count v vs OwnedResult true only = refl
  told_kind count v vs OwnedResult false only = refl
  told_kind count v vs ScopeResult true only = refl
  told_kind count v vs ScopeResult false only = refl
  told_kind count v vs AddressResult true only = refl
  told_kind count v vs AddressResult false only = refl
  told_kind count v vs ForwardedResult true only = refl
  told_kind count v vs ForwardedResult false only = by_kind_is count v vs (forwarded (facts_at d f) vs)
  told_kind count v vs OperandResult true only = refl
  told_kind count v vs OperandResult false only =
      by_kind_is count v (take 1 vs) (forwarded (facts_at d f) (take 1 vs)) ∙ ap (forwarded (facts_at d f)) (only refl)

  pub result_kind : (block index k : ℕ) (i : inst.Inst) (v : ValueId) → IsAt f block index i → slice_get i.results k ≡ Some v
      → kind_at d f v ≡ kind_of_result d f i (is_trivial_or_untyped d (type_in d f v))
  result_kind block index k i v here at =
      let row = result_rows m n f a block index k i v here at in
      let count = length (definitions_of d f) in
      let trivial = is_trivial_or_untyped d (slice_get (made_types d i) k) in
      ap (λ (x : Facts). x.kind) (facts_so m n f a v (result_is_value f (counted m n f a) block index k i v here at))
      ∙ ap₂ (λ vs o. (told_by count v (facts_at d f) vs o).kind) row.defined.operands row.defined.origin
      ∙ told_kind count v (map value_of i.operands) (result_kind_of i.op) trivial only
      ∙ ap (λ t. kind_of_result d f i (is_trivial_or_untyped d t)) (sym row.typed)
    where
      only : IsOnly (result_kind_of i.op) (map value_of i.operands)
      only e =
          let one = extract_row i.op i.operands e ((typed m n f a).insts block index i here).parts.operands in
          ap (λ os. take 1 (map value_of os)) one.1 ∙ sym (ap (map value_of) one.1)

  trivial_argument : (entry : Bool) (s : Option Switched) (k : ArgKind) → (arg_definition_by entry s k true).origin ≡ origin.Plain
  trivial_argument entry s annotation.Plain = refl
  trivial_argument entry s annotation.Owned = refl
  trivial_argument true s annotation.Guaranteed = refl
  trivial_argument false s annotation.Guaranteed = refl

  -- what a value is whose origin is Plain
  pub plain_value : (v : ValueId) → IsValue f v → origin_at (definitions_of d f) v ≡ origin.Plain → kind_at d f v ≡ kind.Plain
  plain_value v lt e =
      ap (λ (x : Facts). x.kind) (facts_so m n f a v lt)
      ∙ ap (λ o. (told_by (length (definitions_of d f)) v (facts_at d f) (operands_at (definitions_of d f) v) o).kind) e

  plain_so : (v : ValueId) → IsDefined f v → is_trivial_or_untyped d (type_in d f v) ≡ true → kind_at d f v ≡ kind.Plain
  plain_so _ (a_result block index k i v here at) e = result_kind block index k i v here at ∙ ap (kind_of_result d f i) e
  plain_so _ (an_argument b k x at) e =
      let row = argument_rows m n f a b k x at in
      let trivial : is_trivial d x.ty ≡ true = ap (is_trivial_or_untyped d) (sym row.typed) ∙ e in
      plain_value x.value (argument_is_value f (counted m n f a) b k x at)
      (row.defined.origin ∙ ap (λ t. (arg_definition_by (is_zero b) (switch_to f b) x.kind t).origin) trivial ∙ trivial_argument (is_zero b) (switch_to f b) x.kind)

  pub trivial_so : (v : ValueId) → is_trivial_or_untyped d (type_in d f v) ≡ true → kind_at d f v ≡ kind.Plain
  trivial_so v e = at (value_or_none d f v)
    where
      at : IsValue f v ⊎ (facts_at d f v ≡ facts_with kind.Plain []) → kind_at d f v ≡ kind.Plain
      at (inl lt) = plain_so v (defined_so m n f v a lt) e
      at (inr none) = ap (λ (x : Facts). x.kind) none

pub suited : AreSuited
suited m n f a i t c = let x = taken_at m n f a i t c in suits_at m n f a x.block x.index x.inst t x.here x.taken

pub forwarded_kinds : AreForwarded
forwarded_kinds m n f a block index i here e = forwarded_so m n f a block index i here e

pub results_of_kinds : AreResultsOfKinds
results_of_kinds m n f a block index k i v here at = result_kind m n f a block index k i v here at

pub trivial_plain : AreTrivialPlain
trivial_plain m n f a v e = trivial_so m n f a v e
