-- The law of splicing, said of run trails.
use Rattle.std.proofs.Common.{◌≡◌, List, [], ◌∷◌, ◌++◌, reverse, refl, sym, ap, ◌∙◌, arith, append_assoc, Bool, true, false}
use Rattle.std.specs.Prelude.{not, ◌&&◌, ◌||◌}
use Rattle.std.specs.List.{list_any}
use Rattle.std.proofs.lemmas.Grind.{common_steps}
use Rattle.std.proofs.lemmas.List.{reverse-append, reverse-reverse}
use Rattle.std.proofs.lemmas.List.Folds.{list_any-append}
use Rattle.sil_cfg.specs.Items.{flow_of}
use Rattle.sil_cfg.specs.inner.Splice.{LastStandsBefore, is_at}
use Rattle.sil_cfg.specs.declared.item.Item.{Item}
use Rattle.sil_cfg.proofs.SplicedTrails.{splices}
use Rattle.sil_verifier_trails.specs.RunTrails.inner.Since.{is_none_since}
use Rattle.sil_verifier_trails.specs.RunTrails.inner.Laws.{AreSpliced}

none_right : (p : Item → Bool) (u v : List Item) → list_any p (u ++ v) ≡ false → list_any p v ≡ false
none_right p u v h = grind (arith, common_steps, list_any-append p u v)

none_behind : (p : Item → Bool) (i : Item) (t : List Item) → list_any p (i ∷ t) ≡ false → list_any p t ≡ false
none_behind p i t h = grind arith

none_here : (p : Item → Bool) (i : Item) (t : List Item) → list_any p (i ∷ t) ≡ false → p i ≡ false
none_here p i t h = grind arith

none_reversed : (p : Item → Bool) (t : List Item) → list_any p t ≡ false → list_any p (reverse t) ≡ false
none_reversed p [] h = refl
none_reversed p (i ∷ t) h =
    let more = none_reversed p t (none_behind p i t h) in
    let here = none_here p i t h in
    ap (list_any p) (reverse-append (i ∷ []) t) ∙ grind (arith, common_steps, list_any-append p (reverse t) (i ∷ []))

module _ (p q : Item → Bool) where
  -- past items that pass neither
  none_newer : (newer older : List Item) (i : Item) → list_any p newer ≡ false → list_any q newer ≡ false → q i ≡ true → is_none_since p q (newer ++ i ∷ older) ≡ true
  none_newer [] older i n m here = ap (λ b. b || (not (p i) && is_none_since p q older)) here
  none_newer (j ∷ newer) older i n m here =
      let more = none_newer newer older i (none_behind p j newer n) (none_behind q j newer m) here in
      ap (λ b. b || (not (p j) && is_none_since p q (newer ++ i ∷ older))) (none_here q j newer m)
      ∙ ap (λ b. not b && is_none_since p q (newer ++ i ∷ older)) (none_here p j newer n) ∙ more

  none_turned : (t : List Item) → LastStandsBefore p q (reverse t) → is_none_since p q t ≡ true
  none_turned t h =
      let before : List Item = h.front ++ h.first ∷ h.middle in
      let parts : reverse t ≡ before ++ h.second ∷ h.rest = h.parts ∙ sym (append_assoc h.front (h.first ∷ h.middle) (h.second ∷ h.rest)) in
      let turned : t ≡ reverse h.rest ++ h.second ∷ reverse before =
      sym (reverse-reverse t) ∙ ap reverse parts ∙ reverse-append before (h.second ∷ h.rest)
      ∙ ap (λ v. v ++ reverse before) (reverse-append (h.second ∷ []) h.rest) ∙ append_assoc (reverse h.rest) (h.second ∷ []) (reverse before) in
      let none : list_any p h.rest ≡ false = none_behind p h.second h.rest (none_right p h.middle (h.second ∷ h.rest) h.last_first) in
      ap (is_none_since p q) turned
      ∙ none_newer (reverse h.rest) (reverse before) h.second (none_reversed p h.rest none) (none_reversed q h.rest h.last_second) h.second_is

pub are_spliced : AreSpliced
are_spliced f a b c ab bc t i trail here =
    none_turned (is_at (flow_of f) a) (is_at (flow_of f) b) t (splices f a b c ab bc trail.0 (reverse t) i trail.1 here)
