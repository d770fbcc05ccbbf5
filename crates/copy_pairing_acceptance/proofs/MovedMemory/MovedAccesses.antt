-- What a copy, the move that it becomes, and the destroy that goes do to memory: where the operand is Owned, nothing but that it ends and is mentioned.
use Rattle.std.proofs.Common.{◌≡◌, List, [], ◌∷◌, ◌++◌, length, map, refl, sym, ap, ap₂, ◌∙◌, true, Option, Some, None}
use Rattle.std.specs.Prelude.{cond, unwrap_or}
use Rattle.std.specs.List.{flat_map, slice_get}
use Rattle.std.proofs.lemmas.Bool.{eqb-true}
use Rattle.std.proofs.lemmas.Option.{same_Some}
use Rattle.instruction_table.proofs.Numbers.{stands_at}
use Rattle.instruction_table.specs.Forms.{number_of, roles_of}
use Rattle.instruction_table.specs.declared.entries.Role.TheVariants as role
use Rattle.instruction_table.specs.declared.op.Op.{Op}
use Rattle.instruction_table.specs.declared.op.Op.TheVariants as op
use Rattle.instruction_table.specs.declared.op.TheConstants.{OPS}
use Rattle.copy_pairing_model.specs.Copies.{Copies, Destroys, is_op}
use Rattle.copy_pairing_model.specs.Rewritten.{with_op}
use Rattle.sil_cfg_items.specs.Items.{item_defined, item_taken}
use Rattle.sil_cfg_items.specs.Parts.{item_inst}
use Rattle.sil_cfg_items.specs.Roles.{by_row, conventions_in, roles_for, taken_as, taken_by, taken_each}
use Rattle.sil_cfg_items.specs.declared.taken.Taken.{Taken}
use Rattle.sil_verifier_trails.specs.memory_rules_accesses.Accesses as accesses
use Rattle.sil_verifier_trails.specs.memory_rules_accesses.Accesses.{accesses_of, allowance_of, deallocations_of, does_of, made, mentioned, mentions_of}
use Rattle.sil_verifier_trails.specs.memory_rules_accesses.Operations.{access_kind_of, address_of, deallocates_by, operated_at}
use Rattle.sil_verifier_trails.specs.memory_rules_accesses.declared.access.Access.{Access}
use Rattle.sil_verifier_trails.specs.memory_rules_accesses.declared.access.Access.TheVariants.{Deallocates, Does, Ends, Mentions}
use Rattle.sil_verifier_trails.specs.memory_rules_accesses.declared.columns.Allowance.TheVariants.{NeitherOfThem}
use Rattle.sil_verifier_trails.specs.memory_rules_accesses.declared.source.Source.{Source}
use Rattle.ownership_kinds_chains.specs.OwnershipChains.Facts.{facts_with, is_owned, known_or}
use Rattle.ownership_kinds_chains.specs.declared.ownership_chains.facts.Facts.{Facts}
use Rattle.ownership_kinds_chains.specs.OwnershipMarks.Marks.{begun, end_of, ended, ended_by, ended_with, marks_with, use_of, used, used_by, used_with}
use Rattle.ownership_kinds_chains.specs.declared.ownership_marks.mark.Mark.{Mark}
use Rattle.sil_ast.specs.declared.function.Function.{Function}
use Rattle.sil_ast.specs.declared.inst.Inst.{Inst}
use Rattle.sil_ast.specs.declared.inst.Qualifier.{Qualifier}
use Rattle.sil_ast.specs.declared.operands.Operand.{Operand}
use Rattle.sil_ast.specs.declared.place.ValueId.{ValueId}
use Rattle.sil_cfg.specs.declared.item.Item.{Item}
use Rattle.sil_types_declarations.specs.declared.type_definitions.kind.Kind.{Kind}
use Rattle.sil_types_declarations.specs.declared.type_definitions.kind.Kind.TheVariants as kind
use Rattle.copy_pairing_acceptance.specs.MovedMemory.inner.Items.{IsGone, IsMoved, IsSame}

-- ---- one operand

same_op : (a b : Op) → number_of a ≡ number_of b → a ≡ b
same_op a b e = same_Some a b (sym (stands_at a) ∙ ap (slice_get OPS) e ∙ stands_at b)

pub op_is : (o : Op) (i : Inst) → is_op o i ≡ true → i.op ≡ o
op_is o i e = same_op i.op o (eqb-true (number_of i.op) (number_of o) e)

taken_with : (o : Op) (i : Inst) (x : Operand) → i.op ≡ o → i.operands ≡ x ∷ [] → taken_by i ≡ taken_each (x ∷ []) (roles_for (roles_of o) (conventions_in i) 1)
taken_with o i x e operands = ap₂ (λ xs o. taken_each xs (roles_for (roles_of o) (conventions_in i) (length xs))) operands e

copy_takes : (i : Inst) (c v : ValueId) (h : Copies i c v) → taken_by i ≡ taken_as h.operand (by_row role.Used) ∷ []
copy_takes i c v h = taken_with op.CopyValue i h.operand (op_is op.CopyValue i h.copies) h.operands

pub move_takes : (i : Inst) (c v : ValueId) (h : Copies i c v) → taken_by (with_op op.MoveValue i) ≡ taken_as h.operand (by_row role.Consumed) ∷ []
move_takes i c v h = taken_with op.MoveValue (with_op op.MoveValue i) h.operand refl h.operands

destroy_takes : (i : Inst) (v : ValueId) (h : Destroys i v) → taken_by i ≡ taken_as h.operand (by_row role.Consumed) ∷ []
destroy_takes i v h = taken_with op.DestroyValue i h.operand (op_is op.DestroyValue i h.destroys) h.operands

-- ---- marks of an Owned operand

module _ (facts : ValueId → Option Facts) where
  abbrev IsOwned : ValueId → Type 0
  IsOwned v = is_owned (known_or facts v).kind ≡ true

  consumed_ends : (x : Operand) → IsOwned x.value → ended facts (taken_as x (by_row role.Consumed)) ≡ end_of x.value ∷ []
  consumed_ends x owned = with (facts x.value) owned
    where
      by : (k : Kind) → is_owned k ≡ true → ended_by k role.Consumed x.value ≡ end_of x.value ∷ []
      by kind.Owned e = refl
      by kind.Guaranteed e = cc
      by kind.Plain e = cc

      with : (o : Option Facts) → is_owned (unwrap_or o (facts_with kind.Plain [])).kind ≡ true → ended_with o (taken_as x (by_row role.Consumed)) ≡ end_of x.value ∷ []
      with None e = cc
      with (Some g) e = by g.kind e

  consumed_used : (x : Operand) → IsOwned x.value → used facts (taken_as x (by_row role.Consumed)) ≡ []
  consumed_used x owned = with (facts x.value) owned
    where
      by : (k : Kind) (bases : List ValueId) → is_owned k ≡ true → used_by k role.Consumed x.value bases ≡ []
      by kind.Owned bases e = refl
      by kind.Guaranteed bases e = cc
      by kind.Plain bases e = cc

      with : (o : Option Facts) → is_owned (unwrap_or o (facts_with kind.Plain [])).kind ≡ true → used_with o (taken_as x (by_row role.Consumed)) ≡ []
      with None e = refl
      with (Some g) e = by g.kind g.bases e

  used_ends : (x : Operand) → IsOwned x.value → ended facts (taken_as x (by_row role.Used)) ≡ []
  used_ends x owned = with (facts x.value) owned
    where
      by : (k : Kind) → is_owned k ≡ true → ended_by k role.Used x.value ≡ []
      by kind.Owned e = refl
      by kind.Guaranteed e = cc
      by kind.Plain e = cc

      with : (o : Option Facts) → is_owned (unwrap_or o (facts_with kind.Plain [])).kind ≡ true → ended_with o (taken_as x (by_row role.Used)) ≡ []
      with None e = refl
      with (Some g) e = by g.kind e

  used_uses : (x : Operand) → IsOwned x.value → used facts (taken_as x (by_row role.Used)) ≡ use_of x.value ∷ []
  used_uses x owned = with (facts x.value) owned
    where
      by : (k : Kind) (bases : List ValueId) → is_owned k ≡ true → used_by k role.Used x.value bases ≡ use_of x.value ∷ []
      by kind.Owned bases e = refl
      by kind.Guaranteed bases e = cc
      by kind.Plain bases e = cc

      with : (o : Option Facts) → is_owned (unwrap_or o (facts_with kind.Plain [])).kind ≡ true → used_with o (taken_as x (by_row role.Used)) ≡ use_of x.value ∷ []
      with None e = cc
      with (Some g) e = by g.kind g.bases e

  -- the marks of one Owned operand
  consumed_marks : (x : Operand) (defined : List ValueId) → IsOwned x.value
      → marks_with facts (taken_as x (by_row role.Consumed) ∷ []) defined ≡ end_of x.value ∷ flat_map (begun facts) defined
  consumed_marks x defined owned =
      ap₂ (λ ends uses. ((ends ++ []) ++ (uses ++ [])) ++ flat_map (begun facts) defined) (consumed_ends x owned) (consumed_used x owned)

  used_marks : (x : Operand) (defined : List ValueId) → IsOwned x.value
      → marks_with facts (taken_as x (by_row role.Used) ∷ []) defined ≡ use_of x.value ∷ flat_map (begun facts) defined
  used_marks x defined owned =
      ap₂ (λ ends uses. ((ends ++ []) ++ (uses ++ [])) ++ flat_map (begun facts) defined) (used_ends x owned) (used_uses x owned)

-- ---- accesses

module _ (sources : List Source) (facts : ValueId → Option Facts) where
  abbrev with_marks : List Mark → Option Inst → List Taken → List ValueId → List Access
  with_marks marks o taken defined =
      flat_map accesses.ended marks ++ (mentions_of o taken ++ (does_of o ++ (deallocations_of o ++ (flat_map (made sources) defined ++ flat_map accesses.begun marks))))

  -- the accesses of an item, by its instruction, what it takes and what it defines
  abbrev of_item : Option Inst → List Taken → List ValueId → List Access
  of_item o taken defined = with_marks (marks_with facts taken defined) o taken defined

  -- the same of an instruction, by its row
  abbrev by_op : List Mark → Op → Qualifier → List Taken → List ValueId → List Access
  by_op marks o q taken defined =
      flat_map accesses.ended marks ++ (cond (deallocates_by (access_kind_of o)) [] (map (mentioned (allowance_of o)) taken)
      ++ (map Does (flat_map (operated_at (access_kind_of o) q) taken) ++ (cond (deallocates_by (access_kind_of o)) (map Deallocates (flat_map address_of taken)) []
      ++ (flat_map (made sources) defined ++ flat_map accesses.begun marks))))

  with_op_of : (marks : List Mark) (i : Inst) (defined : List ValueId) → with_marks marks (Some i) (taken_by i) defined ≡ by_op marks i.op i.qualifier (taken_by i) defined
  with_op_of marks i defined = refl

  -- an item whose instruction takes one operand and has these marks
  of_one : (f : Function) (item : Item) (i : Inst) (o : Op) (t : Taken) (marks : List Mark) → item_inst f item ≡ Some i → item_taken f item ≡ taken_by i
      → i.op ≡ o → taken_by i ≡ t ∷ [] → marks_with facts (t ∷ []) (item_defined f item) ≡ marks
      → accesses_of sources facts f item ≡ by_op marks o i.qualifier (t ∷ []) (item_defined f item)
  of_one f item i o t marks was took e takes has =
      let defined : List ValueId = item_defined f item in
      ap₂ (λ x ts. of_item x ts defined) was took
      ∙ with_op_of (marks_with facts (taken_by i) defined) i defined
      ∙ ap₂ (λ o ts. by_op (marks_with facts ts defined) o i.qualifier ts defined) e takes
      ∙ ap (λ ms. by_op ms o i.qualifier (t ∷ []) defined) has

  -- what a copy does behind the ends of the values that it defines
  abbrev behind : ValueId → List ValueId → List Access
  behind v defined =
      flat_map accesses.ended (flat_map (begun facts) defined)
      ++ (Mentions v NeitherOfThem ∷ (flat_map (made sources) defined ++ flat_map accesses.begun (flat_map (begun facts) defined)))

  copied : (q : Qualifier) (x : Operand) (defined : List ValueId)
      → by_op (use_of x.value ∷ flat_map (begun facts) defined) op.CopyValue q (taken_as x (by_row role.Used) ∷ []) defined ≡ behind x.value defined
  copied q x defined = refl

  given : (q : Qualifier) (x : Operand) (defined : List ValueId)
      → by_op (end_of x.value ∷ flat_map (begun facts) defined) op.MoveValue q (taken_as x (by_row role.Consumed) ∷ []) defined ≡ Ends x.value ∷ behind x.value defined
  given q x defined = refl

  dropped : (q : Qualifier) (x : Operand) → by_op (end_of x.value ∷ []) op.DestroyValue q (taken_as x (by_row role.Consumed) ∷ []) [] ≡ Ends x.value ∷ Mentions x.value NeitherOfThem ∷ []
  dropped q x = refl

  module _ (f other : Function) (c v : ValueId) where
    -- the same item does the same
    pub same_accesses : (i j : Item) → IsSame f other c v i j → accesses_of sources facts other j ≡ accesses_of sources facts f i
    same_accesses i j h = ap₂ (λ x ts. of_item x ts (item_defined other j)) h.inst h.taken ∙ ap (of_item (item_inst f i) (item_taken f i)) h.defined

    module _ (owned : IsOwned facts v) where
      owned_operand : (x : Operand) → x.value ≡ v → IsOwned facts x.value
      owned_operand x e = ap (λ w. is_owned (known_or facts w).kind) e ∙ owned

      -- the move ends the operand, and does what the copy did
      pub moved_accesses : (i j : Item) → IsMoved f other c v i j → accesses_of sources facts other j ≡ Ends v ∷ accesses_of sources facts f i
      moved_accesses i j h =
          let x : Operand = h.copies.operand in
          let own : IsOwned facts x.value = owned_operand x h.copies.copied in
          let one = of_one f i h.copy op.CopyValue (taken_as x (by_row role.Used)) (use_of x.value ∷ flat_map (begun facts) (item_defined f i)) h.was h.took
          (op_is op.CopyValue h.copy h.copies.copies) (copy_takes h.copy c v h.copies) (used_marks facts x (item_defined f i) own) in
          let two = of_one other j (with_op op.MoveValue h.copy) op.MoveValue (taken_as x (by_row role.Consumed)) (end_of x.value ∷ flat_map (begun facts) (item_defined other j)) h.now h.takes
          refl (move_takes h.copy c v h.copies) (consumed_marks facts x (item_defined other j) own) in
          two ∙ given h.copy.qualifier x (item_defined other j)
          ∙ ap₂ (λ w ds. Ends w ∷ behind x.value ds) h.copies.copied h.defined
          ∙ ap (λ xs. Ends v ∷ xs) (sym (one ∙ copied h.copy.qualifier x (item_defined f i)))

      -- the destroy ends and mentions it
      pub gone_accesses : (i : Item) → IsGone f other c v i → accesses_of sources facts f i ≡ Ends v ∷ Mentions v NeitherOfThem ∷ []
      gone_accesses i h =
          let x : Operand = h.destroys.operand in
          let own : IsOwned facts x.value = owned_operand x h.destroys.destroyed in
          let one = of_one f i h.destroy op.DestroyValue (taken_as x (by_row role.Consumed)) (end_of x.value ∷ flat_map (begun facts) (item_defined f i)) h.was h.took
          (op_is op.DestroyValue h.destroy h.destroys.destroys) (destroy_takes h.destroy v h.destroys) (consumed_marks facts x (item_defined f i) own) in
          one ∙ ap (λ ds. by_op (end_of x.value ∷ flat_map (begun facts) ds) op.DestroyValue h.destroy.qualifier (taken_as x (by_row role.Consumed) ∷ []) ds) h.defined
          ∙ dropped h.destroy.qualifier x
          ∙ ap (λ w. Ends w ∷ Mentions w NeitherOfThem ∷ []) h.destroys.destroyed
