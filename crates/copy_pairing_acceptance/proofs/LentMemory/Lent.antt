-- A function and the one where a copy that can become a borrow is lent, to memory.
use Rattle.std.proofs.Common.{◌≡◌, ◌⊎◌, inl, inr, ℕ, zero, suc, ◌<◌, List, [], ◌∷◌, ◌++◌, length, refl, sym, ap, ◌∙◌, subst, arith, true, false, Option, Some, None, ne_eqb}
use Rattle.std.specs.Prelude.{◌==◌, slice_get, unwrap_or}
use Rattle.std.specs.List.{list_any}
use Rattle.std.proofs.lemmas.Bool.{and_parts, eqb-true, false≢true, or_cases}
use Rattle.std.proofs.lemmas.Option.{same_Some, slice_get_within}
use Rattle.instruction_table.specs.Forms.{results_of}
use Rattle.instruction_table.specs.declared.forms.Part.TheVariants as part
use Rattle.instruction_table.specs.declared.op.Op.{Op}
use Rattle.instruction_table.specs.declared.op.Op.TheVariants as op
use Rattle.sil_cfg_items.specs.Parts.{inst_at, inst_in}
use Rattle.sil_verifier_trails.specs.memory_rules_accesses.Operations.{access_kind_of}
use Rattle.sil_verifier_trails.specs.memory_rules_accesses.Sources.{source_at, source_by, sources_of}
use Rattle.sil_verifier_trails.specs.memory_rules_accesses.declared.source.Source.TheVariants.{Other}
use Rattle.numbered_form.specs.inner.Parts.{are_of_parts, is_typed}
use Rattle.ownership_kinds_chains.specs.OwnershipChains.Facts.{facts_with, is_guaranteed, known_or}
use Rattle.ownership_kinds_chains.specs.declared.ownership_chains.facts.Facts.{Facts}
use Rattle.copy_pairing_model.specs.ownership_kinds_origins.Facts.{facts_in}
use Rattle.numbered_form.specs.PointChecks.Points.{IsAt}
use Rattle.sil_ast.specs.declared.function.Block.{Block}
use Rattle.sil_ast.specs.declared.function.Function.{Function}
use Rattle.sil_ast.specs.declared.inst.Inst.{Inst}
use Rattle.sil_ast.specs.declared.module.Module.{Module}
use Rattle.sil_ast.specs.declared.operands.Operand.{Operand}
use Rattle.sil_ast.specs.declared.place.PointId.{PointId}
use Rattle.sil_ast.specs.declared.place.ValueId.{ValueId}
use Rattle.sil_cfg.specs.Items.{point_at}
use Rattle.sil_types.specs.Typing.ResultCounts.{is_count_by}
use Rattle.sil_types.specs.Typing.RowTypes.{row_types}
use Rattle.sil_types_declarations.specs.TypeDefinitions.Declarations.{Declarations, declarations_of}
use Rattle.sil_types_declarations.specs.declared.type_definitions.kind.Kind.TheVariants as kind
use Rattle.sil_rules.specs.declared.rule_faults.fault.RuleFault.{RuleFault}
use Rattle.sil_verifier_trails.specs.memory_rules.Broken.{IsBroken, at_part, crossing, static}
use Rattle.sil_cfg.specs.Flow.{point_of}
use Rattle.sil_cfg.specs.Items.{flow_of}
use Rattle.sil_verifier_trails.specs.sil_verifier_accepted.AcceptedModules.Shown.{memory}
use Rattle.sil_verifier_trails.proofs.holder_model_typing.RunTypingLaws.Rows.Shares.{of_parts}
use Rattle.sil_verifier_trails.specs.AcceptedTrails.inner.Accepted.{IsAcceptedIn}
use Rattle.sil_verifier_trails.proofs.AcceptedTrails.Unbroken.{are_accepted}
use Rattle.sil_verifier_trails.specs.sil_verifier_values.inner.Known.{IsAcceptedBody, facts_at}
use Rattle.sil_verifier_trails.proofs.sil_verifier_values.Accepted.{counted, has_kinds, in_range, typed}
use Rattle.sil_verifier_trails.proofs.sil_verifier_values.Facts.{facts_so, known, told_so}
use Rattle.copy_pairing_model.specs.Copies.{IsCopy}
use Rattle.copy_pairing_model.specs.Removable.{IsBorrowable}
use Rattle.copy_pairing_model.specs.Rewritten.{lent, lent_inst}
use Rattle.copy_pairing_acceptance.proofs.LentFunctions.Graph.{flow_lent, return_lent}
use Rattle.sil_verifier_trails.proofs.ownership_kinds.Defined.{defined_somewhere}
use Rattle.copy_pairing_acceptance.proofs.LentFunctions.Facts.{other_facts}
use Rattle.copy_pairing_acceptance.proofs.LentFunctions.Facts as lent_facts
use Rattle.copy_pairing_acceptance.proofs.LentFunctions.Marks.{marks_lent}
use Rattle.copy_pairing_acceptance.proofs.LentFunctions.Ready.{IsFormed, Ready}
use Rattle.copy_pairing_acceptance.proofs.LentFunctions.ValueRows.{comes_from, end_stays}
use Rattle.copy_pairing_acceptance.specs.LentMemory.inner.Laws.{LentMemoryIsClean}
use Rattle.copy_pairing_acceptance.proofs.LentMemory.Accesses.{accesses_alike}
use Rattle.copy_pairing_acceptance.proofs.LentMemory.Becoming.{HasOperands, does_alike, lent_alike}
use Rattle.copy_pairing_acceptance.proofs.LentMemory.Copied.{copies, copy_facts, copy_owned, copy_source, known_as}
use Rattle.copy_pairing_acceptance.proofs.LentMemory.Alike.{AreLentAlike}
use Rattle.copy_pairing_acceptance.proofs.LentMemory.Kept.{unbroken_lent}
use Rattle.copy_pairing_acceptance.proofs.LentMemory.Means.{AreLentFacts}
use Rattle.copy_pairing_acceptance.proofs.LentMemory.Objects.{base_alone, copy_of_object, copy_results, no_field, no_upcast}
use Rattle.copy_pairing_acceptance.proofs.LentMemory.Rows.{as_many_sources, other_sources, source_borrowed}
use Rattle.copy_pairing_acceptance.proofs.LentMemory.Slots.{crossing_before}
use Rattle.copy_pairing_acceptance.proofs.LentMemory.Sources.{AreLentSources, same_value}
use Rattle.copy_pairing_acceptance.proofs.LentMemory.Statics.{DoesAlike, StandsAlike, static_before}

-- ---- one operand

one_of_parts : (os : List Operand) → are_of_parts (part.Typed ∷ []) os ≡ true → (o : Operand) × (os ≡ o ∷ [])
one_of_parts [] e = absurd (false≢true e)
one_of_parts (o ∷ []) e = (o, refl)
one_of_parts (o ∷ x ∷ os) e = absurd (false≢true (and_parts (is_typed o) false e).1)

takes_one : (c : ValueId) (o : Operand) (os : List Operand) → os ≡ o ∷ [] → list_any (λ (x : Operand). x.value.0 == c.0) os ≡ true → o.value ≡ c
takes_one c o os e h = at (or_cases (o.value.0 == c.0) false (sym (ap (list_any (λ (x : Operand). x.value.0 == c.0)) e) ∙ h))
  where
    at : ((o.value.0 == c.0) ≡ true) ⊎ (false ≡ true) → o.value ≡ c
    at (inl is) = same_value o.value c (eqb-true o.value.0 c.0 is)
    at (inr wrong) = absurd (false≢true wrong)

-- ---- what stands at a point

-- an instruction in a block, or its terminator
inside_or_end : (is : List Inst) (t : Inst) (k : ℕ) (i : Inst) → slice_get (is ++ t ∷ []) k ≡ Some i → (slice_get is k ≡ Some i) ⊎ (t ≡ i)
inside_or_end [] t zero i e = inr (same_Some t i e)
inside_or_end [] t (suc k) i e = cc
inside_or_end (x ∷ is) t zero i e = inl e
inside_or_end (x ∷ is) t (suc k) i e = inside_or_end is t k i e

module _ (f : Function) (c v : ValueId) (formed : IsFormed f) (operands : (p : PointId) (i : Inst) → inst_at f p ≡ Some i → HasOperands c v i) where
  pub stands_alike : (n k : ℕ) (j : Inst) → IsAt (lent c f) n k j → StandsAlike f (lent c f) n k j
  stands_alike n k j at =
      let from = comes_from c f formed n k j at in
      record { inst = from.inst; at = from.at; does = subst (DoesAlike from.inst) (sym from.is) (become from.inst from.at) }
    where
      become : (i : Inst) → IsAt f n k i → DoesAlike i (lent_inst c i)
      become i here = by (inside_or_end here.within.insts here.within.terminator k i here.is_inst)
        where
          by : (slice_get here.within.insts k ≡ Some i) ⊎ (here.within.terminator ≡ i) → DoesAlike i (lent_inst c i)
          by (inl inside) = does_alike c v i (lent_inst c i) (lent_alike c v i (operands (point_at n k) i (ap (λ o. inst_in o k) here.is_block ∙ inside)))
          by (inr end) =
              let stays : lent_inst c i ≡ i = subst (λ x. lent_inst c x ≡ x) end (end_stays c f formed n here.within here.is_block) in
              subst (DoesAlike i) (sym stays) (record { operations = refl; deallocated = refl })

module _ (m : Module) (n : ℕ) (f : Function) (a : IsAcceptedBody m n f) (p : PointId) (c v : ValueId) (copy : IsCopy f p c v)
    (free : IsBorrowable (facts_in (declarations_of m) f) f c v) where
  abbrev d : Declarations
  d = declarations_of m

  pub operands_are : (q : PointId) (i : Inst) → inst_at f q ≡ Some i → HasOperands c v i
  operands_are q i e = record {
    copies = λ is made.
        let same = copy_results m n f a p c v copy q i e made in
        (copy.copies.operand, ap (λ (x : Inst). x.operands) same ∙ copy.copies.operands, copy.copies.copied);
    destroys = λ is taken.
        let o = one_of_parts i.operands (of_parts (are_of_parts (part.Typed ∷ []) i.operands) (known_as m n f a q i op.DestroyValue e is).operands) in
        (o.0, o.1, takes_one c o.0 i.operands o.1 taken);
  }

  pub ready : Ready (declarations_of m) f p c v
  ready = record {
    formed = record {
      counted = counted m n f a;
      inside = λ q i e. ((typed m n f a).inside q i e).0;
      ends = λ b i e. ((typed m n f a).ends b i e).1;
      parts = λ b k i at. ((typed m n f a).insts b k i at).parts;
      one_result = λ b k i at is.
          eqb-true (length i.results) 1
          (subst (λ x. is_count_by (results_of x) (row_types (declarations_of m) i) (length i.results) ≡ true) is ((typed m n f a).insts b k i at).results);
      defined = λ w lt. defined_somewhere w f (counted m n f a) lt;
    };
    facts = record {
      kinds = has_kinds m n f a;
      ranged = in_range m n f a;
      known = λ w lt. (facts_at (declarations_of m) f w, told_so m n f a w lt ∙ ap (λ x. Some x) (sym (facts_so m n f a w lt)), known m n f a w lt);
    };
    copy = copy;
    owned = copy_facts m n f a p c v copy;
    lends = free;
  }

  source_copied : source_at (sources_of d f) c ≡ Other
  source_copied = copy_source m n f a p c v copy ∙ ap (λ (o : Op). source_by (access_kind_of o) d copy.inst) (copies m n f a p c v copy)

  pub sources_lent : AreLentSources (sources_of d f) (sources_of d (lent c f)) c v
  sources_lent = record {
    size = as_many_sources d f p c v ready;
    others = other_sources d f p c v ready;
    copied = source_copied;
    borrowed = source_borrowed d f p c v ready;
    no_upcast = λ is w e. no_upcast m n f a p c v copy free w e;
    no_field = λ is w k trivial e. no_field m n f a p c v copy w k trivial e;
  }

  -- ---- the whole

  facts_lent : AreLentFacts (known_or (facts_in (declarations_of m) f)) (known_or (facts_in (declarations_of m) (lent c f))) c
  facts_lent = record {
    others = λ w other. ap (λ o. unwrap_or o (facts_with kind.Plain [])) (other_facts (declarations_of m) f p c v ready w (ne_eqb w.0 c.0 other));
    own = ap (λ (o : Option Facts). (unwrap_or o (facts_with kind.Plain [])).bases) (copy_facts m n f a p c v copy);
    bases = ap (λ (o : Option Facts). (unwrap_or o (facts_with kind.Plain [])).bases) (lent_facts.copy_facts (declarations_of m) f p c v ready);
    alone = base_alone m n f a p c v copy;
    owned = ap is_guaranteed (copy_owned m n f a p c v copy);
  }

  pub lent_as_was : AreLentAlike (declarations_of m) f (lent c f) c v
  lent_as_was = record {
    sources = sources_lent;
    facts = facts_lent;
    accesses = accesses_alike (declarations_of m) f c v sources_lent (λ i is. marks_lent (declarations_of m) f p c v ready i) operands_are;
    returns = return_lent c f;
    flow = flow_lent c f;
  }

  accepted : IsAcceptedIn (declarations_of m) f
  accepted = are_accepted m n f a.verified a.body

  -- no rule on memory is broken
  pub clean : (s : RuleFault) → IsBroken (sources_of (declarations_of m) (lent c f)) (facts_in (declarations_of m) (lent c f)) (lent c f) s → ⊥
  clean s (at_part shown) =
      unbroken_lent (declarations_of m) f (lent c f) c v lent_as_was accepted (λ object. copy_of_object m n f a p c v copy object free) shown.part shown.there s.rule s.walk
      s.point shown.item shown.shown
  clean s (crossing later rule other shown) =
      let x = crossing_before (declarations_of m) f (lent c f) c v lent_as_was _ shown in
      accepted.clean (record { rule = s.rule; subject = s.subject; other = s.other; point = point_of (flow_of f) shown.item; walk = s.walk })
      (memory (crossing later rule other x))
  clean s (static none broken) =
      accepted.clean s
      (memory (static none
      (static_before (sources_of (declarations_of m) f) (sources_of (declarations_of m) (lent c f)) c v sources_lent f (lent c f) (stands_alike f c v ready.formed operands_are) s.rule s.subject
      s.other s.point.block.0 s.point.index broken)))

-- a function with an instruction has a body
has_body : (f : Function) (p : PointId) (i : Inst) → inst_at f p ≡ Some i → 0 < length f.blocks
has_body f p i e = at (slice_get f.blocks p.block.0) refl e
  where
    at : (o : Option Block) → slice_get f.blocks p.block.0 ≡ o → inst_in o p.index ≡ Some i → 0 < length f.blocks
    at None there h = cc
    at (Some b) there h = let lt = slice_get_within f.blocks p.block.0 b there in omega arith

pub memory_is_clean : LentMemoryIsClean
memory_is_clean m n f p c v verified there copy free s =
    clean m n f (record { verified = verified; body = record { there = there; body = has_body f p copy.inst copy.stands } }) p c v copy free s
