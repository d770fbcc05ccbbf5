-- What a copy that can become a borrow is to memory: nothing goes on from it, and where it copies a new object, that is held as long.
use Rattle.std.proofs.Common.{◌≡◌, ◌⊎◌, inl, inr, ℕ, suc, List, [], ◌∷◌, ◌++◌, length, map, refl, sym, ap, ap₂, ◌∙◌, subst, arith, Bool, true, false, cond, ◌&&◌, ◌||◌, Option, Some, None, eq-eqb}
use Rattle.std.specs.Prelude.{◌==◌, ◌<◌, Contains, IsSomeAnd, option_map, replicate, slice_get}
use Rattle.std.specs.List.{flat_map, list_any}
use Rattle.std.proofs.lemmas.Bool.{eqb-true, false≢true, or_cases, true≢false}
use Rattle.std.proofs.lemmas.List.{append-nil}
use Rattle.std.proofs.lemmas.Option.{same_Some, slice_get_within}
use Rattle.instruction_table.specs.Forms.{number_of, result_kind_of, roles_of}
use Rattle.instruction_table.specs.declared.op.Op.{Op}
use Rattle.instruction_table.specs.declared.op.Op.TheVariants as op
use Rattle.instruction_table.specs.declared.entries.Role.{Role}
use Rattle.instruction_table.specs.declared.entries.Role.TheVariants as role
use Rattle.sil_cfg_items.specs.Items.{arg_value, item_defined, item_taken, taken_in}
use Rattle.sil_cfg_items.specs.Parts.{args_behind, edge_at, inst_at, inst_in, results_in}
use Rattle.sil_cfg_items.specs.Roles.{by_row, conventions_in, roles_for, taken_as, taken_by, taken_each}
use Rattle.sil_cfg_items.specs.declared.taken.Taken.{Taken}
use Rattle.sil_cfg_items.specs.declared.taken.Treatment.{Treatment}
use Rattle.argument_conventions.specs.declared.convention.ArgumentConvention.{ArgumentConvention}
use Rattle.sil_verifier_trails.specs.memory_rules_accesses.Accesses.{begun, deallocations_of, does_of, ended, made, mentions_of}
use Rattle.sil_verifier_trails.specs.memory_rules_accesses.Locations.{is_object}
use Rattle.sil_verifier_trails.specs.memory_rules_accesses.Sources.{source_at, sources_of}
use Rattle.sil_verifier_trails.specs.memory_rules_accesses.declared.access.Access.TheVariants.{Mentions}
use Rattle.sil_verifier_trails.specs.memory_rules_accesses.declared.columns.Allowance.TheVariants.{NeitherOfThem}
use Rattle.sil_verifier_trails.specs.memory_rules_accesses.declared.source.Source.{Source}
use Rattle.sil_verifier_trails.specs.memory_rules_accesses.declared.source.Source.TheVariants as source
use Rattle.ownership_kinds_chains.specs.OwnershipChains.Facts.{facts_with, has, is_owned, known_or}
use Rattle.ownership_kinds_chains.specs.declared.ownership_chains.facts.Facts.{Facts}
use Rattle.copy_pairing_model.specs.ownership_kinds_origins.Facts.{facts_in}
use Rattle.ownership_kinds_chains.specs.OwnershipMarks.Marks as marks
use Rattle.ownership_kinds_chains.specs.OwnershipMarks.Marks.{end_of, ended_with, ends_owned, marks_of, use_of, used_with}
use Rattle.ownership_kinds_chains.specs.declared.ownership_marks.mark.Mark.{Mark}
use Rattle.ownership_kinds_chains.specs.declared.ownership_marks.mark.MarkSort.TheVariants.{End}
use Rattle.sil_ast.specs.Blocks.{args_of}
use Rattle.sil_ast.specs.declared.function.Block.{Block}
use Rattle.sil_ast.specs.declared.function.Function.{Function}
use Rattle.sil_ast.specs.declared.inst.Edge as edge
use Rattle.sil_ast.specs.declared.inst.Inst as inst
use Rattle.sil_ast.specs.declared.module.Module.{Module}
use Rattle.sil_ast.specs.declared.operands.Operand.{Operand}
use Rattle.sil_ast.specs.declared.place.PointId.{PointId}
use Rattle.sil_ast.specs.declared.place.ValueId.{ValueId}
use Rattle.sil_cfg.specs.Items.{IsItem}
use Rattle.sil_cfg.specs.declared.item.Item.{Item}
use Rattle.sil_cfg.specs.declared.item.Item.TheVariants.{Edge, Entry, Exit, Inst}
use Rattle.sil_types_declarations.specs.TypeDefinitions.Declarations.{declarations_of}
use Rattle.sil_types_declarations.specs.declared.type_definitions.kind.Kind.{Kind}
use Rattle.sil_types_declarations.specs.declared.type_definitions.kind.Kind.TheVariants as kind
use Rattle.numbered_form.specs.ValueTables.FirstValue.{first_value, value_of}
use Rattle.sil_verifier_trails.specs.holder_model.Frames.{has_any}
use Rattle.sil_verifier_trails.specs.AcceptedTrails.inner.Defined.{makes}
use Rattle.sil_verifier_trails.specs.AcceptedTrails.inner.Passing.{is_end, is_use}
use Rattle.sil_verifier_trails.proofs.AcceptedTrails.Tests.{either, or_right, same_value}
use Rattle.sil_verifier_trails.specs.AcceptedMemory.inner.PartTrails.{accesses_in}
use Rattle.sil_verifier_trails.proofs.AcceptedPremises.MadeAtStops.{makes_so}
use Rattle.sil_verifier_trails.specs.sil_verifier_values.inner.Bases.{IsLender}
use Rattle.sil_verifier_trails.specs.sil_verifier_values.inner.Known.{IsAcceptedBody, kind_at}
use Rattle.sil_verifier_trails.specs.sil_verifier_values.inner.Operands.{MayLend, kind_by_row, kind_together}
use Rattle.sil_verifier_trails.proofs.sil_verifier_values.Accepted.{counted}
use Rattle.sil_verifier_trails.proofs.sil_verifier_values.Addresses.{addresses_of_lenders}
use Rattle.sil_verifier_trails.proofs.sil_verifier_values.Based.{lent_by_lenders, owned_own_bases, owned_value}
use Rattle.sil_verifier_trails.proofs.sil_verifier_values.Counted.{nothing_in, stands}
use Rattle.sil_verifier_trails.proofs.sil_verifier_values.Places.{no_argument_and_result, results_once}
use Rattle.sil_verifier_trails.proofs.sil_verifier_values.Suited.{suited}
use Rattle.sil_verifier_trails.proofs.sil_verifier_values.TableRows.{result_rows}
use Rattle.copy_pairing_model.specs.Copies.{IsCopy, is_op}
use Rattle.copy_pairing_model.specs.Removable.{IsBorrowable, is_destroy, is_mark}
use Rattle.copy_pairing_acceptance.proofs.LentMemory.Becoming.{mentions_one, taken_one}
use Rattle.copy_pairing_acceptance.proofs.LentMemory.Copied.{copies, copy_facts, copy_owned, operand_owned, place, takes_copied}
use Rattle.copy_pairing_acceptance.proofs.LentMemory.Following.{IsCopyOfObject, takes_value}
use Rattle.copy_pairing_acceptance.proofs.LentMemory.Items.{six}
use Rattle.copy_pairing_acceptance.proofs.LentMemory.Made.{argument_so, field_row, is_by_inst, object_row, result_of, upcast_row}
use Rattle.copy_pairing_acceptance.proofs.LentMemory.Quiet.{refuses}
use Rattle.copy_pairing_acceptance.proofs.LentMemory.Stays.{base_stays}

is_object_by : (s : Source) → is_object s ≡ true → is_by_inst s ≡ true
is_object_by (source.Slot trivial) e = absurd (false≢true e)
is_object_by (source.Argument row trivial) e = absurd (false≢true e)
is_object_by (source.Object fields) e = refl
is_object_by (source.Borrow of) e = absurd (false≢true e)
is_object_by (source.Upcast of) e = absurd (false≢true e)
is_object_by (source.Loan of) e = absurd (false≢true e)
is_object_by (source.Field of k trivial) e = absurd (false≢true e)
is_object_by (source.Part of k) e = absurd (false≢true e)
is_object_by source.Other e = absurd (false≢true e)

item_there : (f : Function) (q : PointId) (i : inst.Inst) → inst_at f q ≡ Some i → IsItem f (Inst q)
item_there f q i e = at (slice_get f.blocks q.block.0) e
  where
    at : (o : Option Block) → inst_in o q.index ≡ Some i → IsSomeAnd o (λ block. q.index < length block.insts)
    at None e = cc
    at (Some b) e = slice_get_within b.insts q.index i e

-- an instruction whose first operand is the value, in a row of one role
record TakesFirst (i : inst.Inst) (r : Role) (c : ValueId) : Type 0 where
  operand : Operand
  rest : List Taken
  taken : taken_by i ≡ taken_as operand (by_row r) ∷ rest
  is : operand.value ≡ c

takes_first : (i : inst.Inst) (x : Op) (r : Role) (c : ValueId) → i.op ≡ x → first_value i ≡ Some c
    → ((conventions : List ArgumentConvention) (n : ℕ) → (ts : List Treatment) × (roles_for (roles_of x) conventions (suc n) ≡ by_row r ∷ ts)) → TakesFirst i r c
takes_first i x r c is first row = at i.operands refl first
  where
    at : (os : List Operand) → i.operands ≡ os → option_map value_of (slice_get os 0) ≡ Some c → TakesFirst i r c
    at [] e h = cc
    at (o ∷ os) e h =
        let it = row (conventions_in i) (length os) in
        record {
          operand = o;
          rest = taken_each os it.0;
          taken = ap₂ (λ os (y : Op). taken_each os (roles_for (roles_of y) (conventions_in i) (length os))) e is ∙ ap (taken_each (o ∷ os)) it.1;
          is = same_Some o.value c h;
        }

first_in : {A : Type 0} (x : A) (xs : List A) → Contains (x ∷ xs) x
first_in x xs = (0, omega arith, refl)

in_item : (f : Function) (i : Item) (x : Taken) (rest : List Taken) → item_taken f i ≡ x ∷ rest → Contains (item_taken f i) x
in_item f i x rest e = subst (λ ts. Contains ts x) (sym e) (first_in x rest)

none_taken : (os : List Operand) → taken_each os [] ≡ []
none_taken [] = refl
none_taken (o ∷ os) = refl

owned_or_used : (facts : ValueId → Option Facts) (c : ValueId) → facts c ≡ Some (facts_with kind.Owned (c ∷ [])) → (t : Taken) → takes_value c t ≡ true
    → (is_end facts c t ≡ true) ⊎ (is_use facts c t ≡ true)
owned_or_used facts c known t e = at (ends_owned t.role) refl
  where
    same : t.value ≡ c
    same = same_value t.value c (eqb-true t.value.0 c.0 e)

    there : facts t.value ≡ Some (facts_with kind.Owned (c ∷ []))
    there = ap facts same ∙ known

    at : (b : Bool) → ends_owned t.role ≡ b → (is_end facts c t ≡ true) ⊎ (is_use facts c t ≡ true)
    at true is =
        inl (ap (λ o. has_any (ended_with o t) && (t.value.0 == c.0)) there
        ∙ ap (λ b. has_any (cond b (end_of t.value ∷ []) []) && (t.value.0 == c.0)) is ∙ e)
    at false is =
        inr (ap (λ o. list_any (λ (m : Mark). m.subject.0 == c.0) (used_with o t)) there
        ∙ ap (λ b. list_any (λ (m : Mark). m.subject.0 == c.0) (cond b [] (use_of t.value ∷ []))) is ∙ ap (λ b. b || false) e)

all_owned_or_used : (facts : ValueId → Option Facts) (c : ValueId) → facts c ≡ Some (facts_with kind.Owned (c ∷ [])) → (ts : List Taken) → list_any (takes_value c) ts ≡ true
    → (list_any (is_end facts c) ts ≡ true) ⊎ (list_any (is_use facts c) ts ≡ true)
all_owned_or_used facts c known [] e = absurd (false≢true e)
all_owned_or_used facts c known (t ∷ ts) e = either
    (λ here. either
    (λ ends. inl (ap (λ b. b || list_any (is_end facts c) ts) ends))
    (λ uses. inr (ap (λ b. b || list_any (is_use facts c) ts) uses)) (owned_or_used facts c known t here))
    (λ there. either
    (λ ends. inl (or_right (is_end facts c t) (list_any (is_end facts c) ts) ends))
    (λ uses. inr (or_right (is_use facts c t) (list_any (is_use facts c) ts) uses)) (all_owned_or_used facts c known ts there))
    (or_cases (takes_value c t) (list_any (takes_value c) ts) e)

-- a first operand that an item ends has a mark
ends_first : (facts : ValueId → Option Facts) (f : Function) (c : ValueId) → facts c ≡ Some (facts_with kind.Owned (c ∷ [])) → (i : Item) (t : Taken) (rest : List Taken)
    → item_taken f i ≡ t ∷ rest → t.value ≡ c → ends_owned t.role ≡ true → list_any (is_mark End (c ∷ [])) (marks_of facts f i) ≡ true
ends_first facts f c known i t rest e is role =
    let P : Mark → Bool = is_mark End (c ∷ []) in
    let uses : List Mark = flat_map (marks.used facts) (item_taken f i) in
    let begins : List Mark = flat_map (marks.begun facts) (item_defined f i) in
    let first : marks.ended facts t ≡ end_of t.value ∷ [] =
    ap (λ o. ended_with o t) (ap facts is ∙ known) ∙ ap (λ b. cond b (end_of t.value ∷ []) []) role in
    let own : (c.0 == t.value.0) ≡ true = eq-eqb c.0 t.value.0 (ap (λ (w : ValueId). w.0) (sym is)) in
    ap (λ ts. list_any P ((flat_map (marks.ended facts) ts ++ uses) ++ begins)) e
    ∙ ap (λ ms. list_any P (((ms ++ flat_map (marks.ended facts) rest) ++ uses) ++ begins)) first
    ∙ ap (λ b. (b || false) || list_any P ((flat_map (marks.ended facts) rest ++ uses) ++ begins)) own

module _ (m : Module) (n : ℕ) (f : Function) (a : IsAcceptedBody m n f) (p : PointId) (c v : ValueId) (copy : IsCopy f p c v) where
  abbrev facts : ValueId → Option Facts
  facts = facts_in (declarations_of m) f

  c_facts : facts_in (declarations_of m) f c ≡ Some (facts_with kind.Owned (c ∷ []))
  c_facts = copy_facts m n f a p c v copy

  c_kind : kind_at (declarations_of m) f c ≡ kind.Owned
  c_kind = copy_owned m n f a p c v copy

  taken_at : (q : PointId) (i : inst.Inst) (t : Taken) (rest : List Taken) → inst_at f q ≡ Some i → taken_by i ≡ t ∷ rest → item_taken f (Inst q) ≡ t ∷ (rest ++ [])
  taken_at q i t rest e h = ap (λ o. taken_in o ++ []) e ∙ ap (λ ts. ts ++ []) h

  -- ---- nothing goes on from the copy

  pub no_upcast : IsBorrowable (facts_in (declarations_of m) f) f c v → (w : ValueId) → source_at (sources_of (declarations_of m) f) w ≡ source.Upcast c → ⊥
  no_upcast free w e =
      let r = result_of m n f a w (ap is_by_inst e) in
      let row = upcast_row (declarations_of m) r.inst c (sym r.source_is ∙ e) in
      let t = takes_first r.inst op.Upcast role.Forwarded c row.0 row.1 (λ cs k. (replicate k (by_row role.Forwarded), refl)) in
      let ends = ends_first facts f c c_facts (Inst r.point) (taken_as t.operand (by_row role.Forwarded)) (t.rest ++ [])
      (taken_at r.point r.inst (taken_as t.operand (by_row role.Forwarded)) t.rest r.there t.taken) t.is (refl {a = true}) in
      let destroys : is_op op.DestroyValue r.inst ≡ true =
      sym (ap is_destroy r.there) ∙ free.destroyed (Inst r.point) (item_there f r.point r.inst r.there) ends in
      let not_so : is_op op.DestroyValue r.inst ≡ false = ap (λ (o : Op). number_of o == number_of op.DestroyValue) row.0 in
      true≢false (sym destroys ∙ not_so)

  pub no_field : (w : ValueId) (k : ℕ) (trivial : Bool) → source_at (sources_of (declarations_of m) f) w ≡ source.Field c k trivial → ⊥
  no_field w k trivial e =
      let r = result_of m n f a w (ap is_by_inst e) in
      let row = field_row (declarations_of m) r.inst c k trivial (sym r.source_is ∙ e) in
      let t = takes_first r.inst op.RefElementAddr role.Lent c row.0 row.1 (λ cs k. (replicate k (by_row role.Lent), refl)) in
      let x : Taken = taken_as t.operand (by_row role.Lent) in
      let there = in_item f (Inst r.point) x (t.rest ++ []) (taken_at r.point r.inst x t.rest r.there t.taken) in
      let lent : MayLend (declarations_of m) f t.operand.value = suited m n f a (Inst r.point) x there in
      let own : MayLend (declarations_of m) f c = subst (MayLend (declarations_of m) f) t.is lent in
      at own
    where
      at : MayLend (declarations_of m) f c → ⊥
      at (inl h) = let wrong : kind.Owned ≡ kind.Guaranteed = sym c_kind ∙ h in cc
      at (inr h) = let wrong : kind.Owned ≡ kind.Plain = sym c_kind ∙ h in cc

  -- ---- the copy alone has itself as a base

  pub base_alone : (w : ValueId) → has (known_or (facts_in (declarations_of m) f) w).bases c.0 ≡ true → w.0 ≡ c.0
  base_alone w e = at (kind_at (declarations_of m) f w) refl
    where
      not_lent : IsLender (declarations_of m) f c → ⊥
      not_lent l =
          let guaranteed : kind_at (declarations_of m) f c ≡ kind.Guaranteed = ap (λ (o : Option Facts). (known_or (λ _. o) c).kind) l.facts in
          let wrong : kind.Owned ≡ kind.Guaranteed = sym c_kind ∙ guaranteed in cc

      at : (k : Kind) → kind_at (declarations_of m) f w ≡ k → w.0 ≡ c.0
      at kind.Owned is =
          let own = owned_own_bases m n f a w is in
          let one : ((w.0 == c.0) || false) ≡ true = sym (ap (λ (o : Option Facts). has (known_or (λ _. o) w).bases c.0) own) ∙ e in
          eqb-true w.0 c.0 (either (λ h. h) (λ h. absurd (false≢true h)) (or_cases (w.0 == c.0) false one))
      at kind.Guaranteed is = absurd (not_lent (lent_by_lenders m n f a w c is e))
      at kind.Plain is = absurd (not_lent (addresses_of_lenders m n f a w c is e))

  -- ---- items that make the copy, and the object

  argument_of : (b : ℕ) → Contains (map arg_value (args_of f b)) c → ⊥
  argument_of b h =
      no_argument_and_result f (counted m n f a) c b p.block.0 p.index copy.inst h (place m n f a p copy.inst copy.stands)
      (subst (λ ws. Contains ws c) (sym copy.copies.result) (first_in c []))

  pub copy_item : (i : Item) → makes f c i ≡ true → i ≡ Inst p
  copy_item Entry e = absurd (argument_of 0 (makes_so f c Entry e))
  copy_item (Inst q) e = at (inst_at f q) refl (subst (λ ws. Contains ws c) (append-nil (results_in (inst_at f q))) (makes_so f c (Inst q) e))
    where
      at : (o : Option inst.Inst) → inst_at f q ≡ o → Contains (results_in o) c → Inst q ≡ Inst p
      at None is h = absurd (nothing_in c h)
      at (Some x) is h =
          let both = results_once f (counted m n f a) c q.block.0 p.block.0 q.index p.index x copy.inst (place m n f a q x is) (place m n f a p copy.inst copy.stands) h
          (subst (λ ws. Contains ws c) (sym copy.copies.result) (first_in c [])) in
          ap₂ (λ b k. let r : PointId = record { block = record { 0 = b }; index = k } in Inst r) both.0 both.1
  copy_item (Edge e) made = at (edge_at f e) refl (makes_so f c (Edge e) made)
    where
      at : (o : Option edge.Edge) → edge_at f e ≡ o → Contains (map arg_value (args_behind f o)) c → Edge e ≡ Inst p
      at None is h = absurd (nothing_in c h)
      at (Some x) is h = absurd (argument_of x.block.0 h)
  copy_item (Exit q) e = absurd (false≢true e)

  pub copy_results : (q : PointId) (i : inst.Inst) → inst_at f q ≡ Some i → has i.results c.0 ≡ true → i ≡ copy.inst
  copy_results q i e h =
      let made : makes f c (Inst q) ≡ true =
      ap (λ o. has (results_in o ++ []) c.0) e ∙ ap (λ ws. has ws c.0) (append-nil i.results) ∙ h in
      let same : Inst q ≡ Inst p = copy_item (Inst q) made in
      let point : q ≡ p = cc in
      same_Some i copy.inst (sym e ∙ ap (inst_at f) point ∙ copy.stands)

  module _ (object : is_object (source_at (sources_of (declarations_of m) f) v) ≡ true) where
    alloc : (q : PointId) (x : inst.Inst) → inst_at f q ≡ Some x → Contains x.results v → x.op ≡ op.AllocRef
    alloc q x e h =
        let s = stands x.results v h in
        let row = (result_rows m n f a q.block.0 q.index s.0 x v (place m n f a q x e) s.1).source in
        object_row (declarations_of m) x (ap is_object (sym row) ∙ object)

    pub object_alone : (i : Item) → makes f v i ≡ true → item_taken f i ≡ []
    object_alone Entry e = refl
    object_alone (Inst q) e = at (inst_at f q) refl (subst (λ ws. Contains ws v) (append-nil (results_in (inst_at f q))) (makes_so f v (Inst q) e))
      where
        at : (o : Option inst.Inst) → inst_at f q ≡ o → Contains (results_in o) v → item_taken f (Inst q) ≡ []
        at None is h = absurd (nothing_in v h)
        at (Some x) is h =
            ap (λ o. taken_in o ++ []) is
            ∙ ap (λ (o : Op). taken_each x.operands (roles_for (roles_of o) (conventions_in x) (length x.operands)) ++ []) (alloc q x is h)
            ∙ ap (λ ts. ts ++ []) (none_taken x.operands)
    object_alone (Edge e) made = at (edge_at f e) (makes_so f v (Edge e) made)
      where
        at : (o : Option edge.Edge) → Contains (map arg_value (args_behind f o)) v → item_taken f (Edge e) ≡ []
        at None h = absurd (nothing_in v h)
        at (Some x) h = absurd (true≢false (sym (is_object_by _ object) ∙ argument_so m n f a x.block.0 v h))
    object_alone (Exit q) e = absurd (false≢true e)

    pub object_owned : kind_at (declarations_of m) f v ≡ kind.Owned
    object_owned =
        let r = result_of m n f a v (is_object_by _ object) in
        let is : r.inst.op ≡ op.AllocRef = object_row (declarations_of m) r.inst (ap is_object (sym r.source_is) ∙ object) in
        operand_owned m n f a p c v copy r.point.block.0 r.point.index r.number r.inst (place m n f a r.point r.inst r.there) r.is
        (ap (λ (o : Op). kind_by_row (result_kind_of o) (kind_together (declarations_of m) f r.inst)) is)

    v_facts : facts_in (declarations_of m) f v ≡ Some (facts_with kind.Owned (v ∷ []))
    v_facts = owned_own_bases m n f a v object_owned

    uses_at : list_any (is_use (facts_in (declarations_of m) f) v) (item_taken f (Inst p)) ≡ true
    uses_at =
        let o = copy.copies.operand in
        let t : Taken = taken_as o (by_row role.Used) in
        let known : facts_in (declarations_of m) f o.value ≡ Some (facts_with kind.Owned (v ∷ [])) = ap (facts_in (declarations_of m) f) copy.copies.copied ∙ v_facts in
        ap (list_any (is_use (facts_in (declarations_of m) f) v)) (takes_copied m n f a p c v copy)
        ∙ ap (λ x. list_any (λ (k : Mark). k.subject.0 == v.0) (used_with x t) || false) known
        ∙ ap (λ b. (b || false) || false) (eq-eqb o.value.0 v.0 (ap (λ (w : ValueId). w.0) copy.copies.copied))

    refused_at : list_any (refuses v) (accesses_in (declarations_of m) f (Inst p)) ≡ true
    refused_at =
        let d = declarations_of m in
        let ms : List Mark = marks_of (facts_in d f) f (Inst p) in
        let o : Option inst.Inst = inst_at f p in
        let i = copy.inst in
        let one : taken_by i ≡ taken_as copy.copies.operand (by_row role.Used) ∷ [] =
        taken_one i copy.copies.operand op.CopyValue role.Used copy.copies.operands (copies m n f a p c v copy) refl in
        let mentions : mentions_of (inst_at f p) (taken_in (inst_at f p) ++ []) ≡ Mentions v NeitherOfThem ∷ [] =
        ap (λ o. mentions_of o (taken_in o ++ [])) copy.stands
        ∙ mentions_one i copy.copies.operand op.CopyValue role.Used (copies m n f a p c v copy) one refl
        ∙ ap (λ w. Mentions w NeitherOfThem ∷ []) copy.copies.copied in
        let own : list_any (refuses v) (mentions_of (inst_at f p) (taken_in (inst_at f p) ++ [])) ≡ true =
        ap (list_any (refuses v)) mentions ∙ ap (λ b. (b && true) || false) (eq-eqb v.0 v.0 refl) in
        six (refuses v) (flat_map ended ms) (mentions_of (inst_at f p) (taken_in (inst_at f p) ++ [])) (does_of (inst_at f p)) (deallocations_of (inst_at f p))
        (flat_map (made (sources_of d f)) (item_defined f (Inst p))) (flat_map begun ms) (list_any (refuses v) (flat_map ended ms)) true _ _ _ _ refl own refl refl refl refl
        ∙ or_right (list_any (refuses v) (flat_map ended ms)) _ refl

    -- the copy of a new object that can become a borrow
    pub copy_of_object : IsBorrowable (facts_in (declarations_of m) f) f c v → IsCopyOfObject (declarations_of m) f c v
    copy_of_object free =
        let d = declarations_of m in
        let owned : is_owned (known_or (facts_in d f) c).kind ≡ true = ap is_owned c_kind in
        let own : has (known_or (facts_in d f) v).bases v.0 ≡ true =
        ap (λ (o : Option Facts). has (known_or (λ _. o) v).bases v.0) v_facts ∙ ap (λ b. b || false) (eq-eqb v.0 v.0 refl) in
        record {
          owned_copy = record { is_value = owned_value m n f a c c_kind; owned = owned };
          owned = record { is_value = owned_value m n f a v object_owned; owned = ap is_owned object_owned };
          stays = base_stays d f c v owned (known_or (facts_in d f) v).bases own free.bases_stay;
          uses = λ i is made. ap (λ j. list_any (is_use (facts_in d f) v) (item_taken f j)) (copy_item i made) ∙ uses_at;
          refused = λ i is made. ap (λ j. list_any (refuses v) (accesses_in d f j)) (copy_item i made) ∙ refused_at;
          taken = λ i is e. all_owned_or_used (facts_in d f) c c_facts (item_taken f i) e;
          alone = λ i is made. object_alone i made;
        }
