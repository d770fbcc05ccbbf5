use Rattle.std.proofs.Common.{◌≡◌, ◌∷◌, [], List, length, sym, ◌∙◌, subst, Bool, false}
use Rattle.std.specs.Prelude.{◌↔◌, slice_index_or}
use Rattle.std.proofs.lemmas.List.{take_at}
use Rattle.ownership_kinds_chains.specs.OwnershipChains.Facts.{known_or}
use Rattle.ownership_kinds_chains.specs.declared.ownership_marks.mark.MarkSort.TheVariants.{End}
use Rattle.copy_pairing_search.specs.BorrowableCopies.inner.Asked.{AreFreeAt}
use Rattle.copy_pairing_search.proofs.BorrowableCopies.FoundTogether.{found_one, operand_below}
use Rattle.copy_pairing_search.proofs.borrowable_copies.together.held_at_ends.Goals as goal

pub returns-clause-found : goal.returns-clause-found
returns-clause-found c = λ count facts by v w lt here.
    let long : length c.mark_broken.new.broken ≡ c.in_ok-held.held.len = c.mark_broken.auto.broken ∙ c.as_mut_slice.ensures.len in
    subst (λ (bs : List Bool). (slice_index_or bs v.0 false ≡ false) ↔ AreFreeAt facts c.args.f.now End (known_or facts w).bases (v ∷ []))
    (sym (take_at c.mark_broken.new.broken _ c.in_ok-held.held.len long))
    (found_one c.args.k.now c.args.copied.now v w here c.args.f.now c.args.g.now c.requires.graph c.blocks-blocks.ensures.sound c.in_ok-entries.entries
    (λ n item e. c.in_ok-entries.ensures.entries n item e) count facts by c.asked_of-count.result (length c.args.copied.now) c.as_mut_slice.result.now c.mark_broken.new.broken
    (c.as_mut_slice.ensures.value ∙ c.in_ok-held.ensures.items_if_clones_equal (λ y e. e)) c.in_ok-mark_broken.ensures
    (c.asked_of-count.ensures.all v.0 lt (operand_below c.args.copied.now v.0 w here)))
