-- What each item does to memory where a copy is lent.
use Rattle.std.proofs.Common.{◌≡◌, List, [], ◌++◌, map, refl, sym, ap, ap₂, ◌∙◌, subst, Bool, true, false, cond, Option, Some, None}
use Rattle.std.specs.Prelude.{flat_map, option_map}
use Rattle.sil_cfg_items.specs.Items.{item_defined, item_taken, taken_along_in, taken_in}
use Rattle.sil_cfg_items.specs.Parts.{inst_at, item_inst}
use Rattle.sil_verifier_trails.specs.memory_rules_accesses.Accesses.{accesses_of, begun, deallocations_of, does_of, ended, made, mentions_of}
use Rattle.sil_verifier_trails.specs.memory_rules_accesses.Operations.{addresses_of, deallocates}
use Rattle.sil_verifier_trails.specs.memory_rules_accesses.Sources.{sources_of}
use Rattle.sil_verifier_trails.specs.memory_rules_accesses.declared.access.Access.{Access}
use Rattle.sil_verifier_trails.specs.memory_rules_accesses.declared.access.Access.TheVariants.{Deallocates, Does}
use Rattle.copy_pairing_model.specs.ownership_kinds_origins.Facts.{facts_in}
use Rattle.ownership_kinds_chains.specs.OwnershipMarks.Marks.{marks_of}
use Rattle.ownership_kinds_chains.specs.declared.ownership_marks.mark.Mark.{Mark}
use Rattle.sil_ast.specs.declared.function.Function.{Function}
use Rattle.sil_ast.specs.declared.inst.Inst as inst
use Rattle.sil_ast.specs.declared.place.PointId.{PointId}
use Rattle.sil_ast.specs.declared.place.ValueId.{ValueId}
use Rattle.sil_cfg.specs.Items.{IsItem}
use Rattle.sil_cfg.specs.declared.item.Item.{Item}
use Rattle.sil_cfg.specs.declared.item.Item.TheVariants.{Edge, Entry, Exit, Inst}
use Rattle.sil_types_declarations.specs.TypeDefinitions.Declarations.{Declarations}
use Rattle.copy_pairing_model.specs.Rewritten.{lent, lent_inst}
use Rattle.copy_pairing_acceptance.proofs.LentFunctions.Parts.{defined_lent, edge_lent, inst_at_lent, terminator_lent}
use Rattle.copy_pairing_acceptance.proofs.LentMemory.Becoming.{HasOperands, alike_append, alike_equal, lent_alike, made_alike}
use Rattle.copy_pairing_acceptance.proofs.LentMemory.Means.{AreAlike}
use Rattle.copy_pairing_acceptance.proofs.LentMemory.Sources.{AreLentSources}

-- what an instruction mentions, and does to locations
abbrev mentions_at : Option inst.Inst → List Access
mentions_at o = mentions_of o (taken_in o ++ [])

module _ (d : Declarations) (f : Function) (c v : ValueId) (h : AreLentSources (sources_of d f) (sources_of d (lent c f)) c v)
    (marks : (i : Item) → IsItem f i → marks_of (facts_in d (lent c f)) (lent c f) i ≡ marks_of (facts_in d f) f i)
    (operands : (p : PointId) (i : inst.Inst) → inst_at f p ≡ Some i → HasOperands c v i) where
  whole : (i : Item) → IsItem f i → AreAlike c v (mentions_of (item_inst f i) (item_taken f i)) (mentions_of (item_inst (lent c f) i) (item_taken (lent c f) i))
      → does_of (item_inst (lent c f) i) ≡ does_of (item_inst f i) → deallocations_of (item_inst (lent c f) i) ≡ deallocations_of (item_inst f i)
      → AreAlike c v (accesses_of (sources_of d f) (facts_in d f) f i) (accesses_of (sources_of d (lent c f)) (facts_in d (lent c f)) (lent c f) i)
  whole i is mentions does deallocations =
      let ms : List Mark = marks_of (facts_in d f) f i in
      let ns : List Mark = marks_of (facts_in d (lent c f)) (lent c f) i in
      let made_before : List Access = flat_map (made (sources_of d f)) (item_defined f i) in
      let made_after : List Access = flat_map (made (sources_of d (lent c f))) (item_defined (lent c f) i) in
      let same_made : made_after ≡ made_before =
      ap (λ ws. flat_map (made (sources_of d (lent c f))) ws) (defined_lent c f i) ∙ made_alike (sources_of d f) (sources_of d (lent c f)) c v h (item_defined f i) in
      alike_append c v (flat_map ended ms) (flat_map ended ns) _ _ (alike_equal c v _ _ (ap (λ xs. flat_map ended xs) (marks i is)))
      (alike_append c v (mentions_of (item_inst f i) (item_taken f i)) (mentions_of (item_inst (lent c f) i) (item_taken (lent c f) i)) _ _ mentions
      (alike_append c v (does_of (item_inst f i)) (does_of (item_inst (lent c f) i)) _ _ (alike_equal c v _ _ does)
      (alike_append c v (deallocations_of (item_inst f i)) (deallocations_of (item_inst (lent c f) i)) _ _ (alike_equal c v _ _ deallocations)
      (alike_append c v made_before made_after (flat_map begun ms) (flat_map begun ns) (alike_equal c v _ _ same_made) (alike_equal c v _ _ (ap (λ xs. flat_map begun xs) (marks i is)))))))

  inst_mentions : (p : PointId) (o : Option inst.Inst) → inst_at f p ≡ o → AreAlike c v (mentions_at o) (mentions_at (option_map (lent_inst c) o))
  inst_mentions p None here = tt
  inst_mentions p (Some i) here = (lent_alike c v i (operands p i here)).mentions

  inst_does : (p : PointId) (o : Option inst.Inst) → inst_at f p ≡ o → does_of (option_map (lent_inst c) o) ≡ does_of o
  inst_does p None here = refl
  inst_does p (Some i) here = ap (λ xs. map Does xs) (lent_alike c v i (operands p i here)).operations

  deallocations_mapped : (i : inst.Inst) → deallocations_of (Some i) ≡ map Deallocates (cond (deallocates i) (addresses_of i) [])
  deallocations_mapped i = at (deallocates i)
    where
      at : (b : Bool) → cond b (map Deallocates (addresses_of i)) [] ≡ map Deallocates (cond b (addresses_of i) [])
      at true = refl
      at false = refl

  inst_deallocates : (p : PointId) (o : Option inst.Inst) → inst_at f p ≡ o → deallocations_of (option_map (lent_inst c) o) ≡ deallocations_of o
  inst_deallocates p None here = refl
  inst_deallocates p (Some i) here =
      deallocations_mapped (lent_inst c i) ∙ ap (λ xs. map Deallocates xs) (lent_alike c v i (operands p i here)).deallocated ∙ sym (deallocations_mapped i)

  pub accesses_alike : (i : Item) → IsItem f i → AreAlike c v (accesses_of (sources_of d f) (facts_in d f) f i) (accesses_of (sources_of d (lent c f)) (facts_in d (lent c f)) (lent c f) i)
  accesses_alike Entry is = whole Entry is tt refl refl
  accesses_alike (Inst p) is =
      whole (Inst p) is
      (subst (λ o. AreAlike c v (mentions_at (inst_at f p)) (mentions_at o)) (sym (inst_at_lent c f p)) (inst_mentions p (inst_at f p) refl))
      (ap does_of (inst_at_lent c f p) ∙ inst_does p (inst_at f p) refl)
      (ap deallocations_of (inst_at_lent c f p) ∙ inst_deallocates p (inst_at f p) refl)
  accesses_alike (Edge e) is =
      let end = terminator_lent c f e.block.0 in
      whole (Edge e) is
      (alike_equal c v _ _ (ap₂ (λ o x. mentions_of o (taken_in o ++ taken_along_in x)) end (edge_lent c f e)))
      (ap does_of end) (ap deallocations_of end)
  accesses_alike (Exit p) is =
      let end = terminator_lent c f p.block.0 in
      whole (Exit p) is (alike_equal c v _ _ (ap mentions_at end)) (ap does_of end) (ap deallocations_of end)
