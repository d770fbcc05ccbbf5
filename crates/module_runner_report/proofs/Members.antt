-- The texts of members, one after another.
use Rattle.std.proofs.Common.{◌≡◌, ◌∙◌, ◌+◌, ◌<◌, ◌≤◌, ℕ, zero, suc, List, [], ◌∷◌, ◌++◌, map, length, take, get_or, Option, Some, None, refl, sym, ap}
use Rattle.std.proofs.Common.{add-one, append_assoc, append-nil, arith, codes, slice_get}
use Rattle.std.specs.Prelude.{option_map}
use Rattle.std.specs.List.{flat_map}
use Rattle.std.proofs.lemmas.Grind.{common_steps}
use Rattle.std.proofs.lemmas.List.{length-map, take_all}
use Rattle.std.proofs.lemmas.Option.{slice_get-get_or, slice_get-map}
use Rattle.holder_model.specs.declared.left_object.LeftObject.{LeftObject}
use Rattle.holder_model.specs.RunReport.ValueTexts.{Writer, grouped, text_itself, texts_of}
use Rattle.holder_model_values.specs.RunValues.Values.{Value, members_of}
use Rattle.holder_model_values.specs.declared.run_values.value.Val.{Val}
use Rattle.holder_model_values.specs.declared.run_values.value.Val.TheVariants as val
use Rattle.sil_ast.specs.declared.type_name.TypeName.{TypeName}
use Rattle.sil_printer.specs.Words.{in_parens, listed, separator_before}
use Rattle.sil_types_declarations.specs.TypeDefinitions.Declarations.{Declarations}
use Rattle.module_runner_report.specs.RunOutcomes.{value_of}
use Rattle.module_runner_report.specs.inner.Texts.{group_text, member_text, members_text, text_of}
use Rattle.module_runner_report.proofs.Parts.{members-Group}

-- what a further member adds: nothing where no writer is left for it
abbrev further : List ℕ → Value → Option Writer → List ℕ
further before v None = []
further before v (Some text) = before ++ text v

abbrev words : List Writer → List Value → List ℕ
words ws vs = listed text_itself (texts_of ws vs)

abbrev behind_comma : List ℕ → List ℕ
behind_comma text = codes ", " ++ text

abbrev words_behind : List Writer → List Value → List ℕ
words_behind ws vs = flat_map behind_comma (texts_of ws vs)

no_texts : (ws : List Writer) → texts_of ws [] ≡ []
no_texts [] = refl
no_texts (w ∷ ws) = refl

more_behind : (ws : List Writer) (vs : List Value) (i : ℕ) (v : Value) → slice_get vs i ≡ Some v
    → words_behind ws (take (suc i) vs) ≡ words_behind ws (take i vs) ++ further (codes ", ") v (slice_get ws i)
more_behind ws [] i v there = cc
more_behind [] (x ∷ vs) zero v there = refl
more_behind [] (x ∷ vs) (suc i) v there = refl
more_behind (w ∷ ws) (x ∷ vs) zero v there =
    let same : x ≡ v = cc in
    ap (λ texts. behind_comma (w x) ++ flat_map behind_comma texts) (no_texts ws) ∙ append-nil (behind_comma (w x)) ∙ ap (λ y. behind_comma (w y)) same
more_behind (w ∷ ws) (x ∷ vs) (suc i) v there =
    ap (λ l. behind_comma (w x) ++ l) (more_behind ws vs i v there)
    ∙ sym (append_assoc (behind_comma (w x)) (words_behind ws (take i vs)) (further (codes ", ") v (slice_get ws i)))

behind_first : (i : ℕ) → separator_before (codes ", ") (suc i) ≡ codes ", "
behind_first i = grind (arith, common_steps)

more_words : (ws : List Writer) (vs : List Value) (i : ℕ) (v : Value) → slice_get vs i ≡ Some v
    → words ws (take (suc i) vs) ≡ words ws (take i vs) ++ further (separator_before (codes ", ") i) v (slice_get ws i)
more_words ws [] i v there = cc
more_words [] (x ∷ vs) zero v there = refl
more_words [] (x ∷ vs) (suc i) v there = refl
more_words (w ∷ ws) (x ∷ vs) zero v there =
    let same : x ≡ v = cc in
    ap (λ texts. w x ++ flat_map behind_comma texts) (no_texts ws) ∙ append-nil (w x) ∙ ap (λ y. w y) same
more_words (w ∷ ws) (x ∷ vs) (suc i) v there =
    ap (λ l. w x ++ l) (more_behind ws vs i v there)
    ∙ sym (append_assoc (w x) (words_behind ws (take i vs)) (further (codes ", ") v (slice_get ws i)))
    ∙ ap (λ s. (w x ++ words_behind ws (take i vs)) ++ further s v (slice_get ws i)) (sym (behind_first i))

module _ (d : Declarations) (left : List LeftObject) where
  as_further : (i : ℕ) (v : Value) (t : Option TypeName) → member_text d left i v t ≡ further (separator_before (codes ", ") i) v (option_map (text_of d left) t)
  as_further i v None = refl
  as_further i v (Some t) = refl

  module _ (ts : List TypeName) (members : List Val) (i : ℕ) where
    -- the members so far
    abbrev pub so_far : List ℕ
    so_far = members_text d left ts (take i (map value_of members))

    -- the step of a loop
    pub one_more : (member : Val) (t : Option TypeName) (start before after : List ℕ) → i < length members → member ≡ get_or members i member
        → t ≡ slice_get ts i → before ≡ start ++ so_far → after ≡ before ++ member_text d left i (value_of member) t
        → after ≡ start ++ members_text d left ts (take (i + 1) (map value_of members))
    one_more member t start before after within is at_type at_before at_after =
        let ws = map (text_of d left) ts in
        let vs = map value_of members in
        let v = value_of member in
        let adds = further (separator_before (codes ", ") i) v (slice_get ws i) in
        let there : slice_get vs i ≡ Some v =
        slice_get-map value_of members i ∙ ap (option_map value_of) (slice_get-get_or members i member within ∙ ap Some (sym is)) in
        let added : member_text d left i v t ≡ adds =
        as_further i v t ∙ ap (further (separator_before (codes ", ") i) v) (ap (option_map (text_of d left)) at_type ∙ sym (slice_get-map (text_of d left) ts i)) in
        at_after ∙ ap (λ l. l ++ member_text d left i v t) at_before ∙ append_assoc start so_far (member_text d left i v t)
        ∙ ap (λ l. start ++ l) (ap (λ l. so_far ++ l) added ∙ sym (more_words ws vs i v there))
        ∙ ap (λ n. start ++ words ws (take n vs)) (sym (add-one i))

    -- all of them
    pub all_members : (start put : List ℕ) → length members ≤ i → put ≡ start ++ so_far → put ≡ start ++ members_text d left ts (map value_of members)
    all_members start put past at_put =
        at_put ∙ ap (λ vs. start ++ members_text d left ts vs) (take_all i (map value_of members) (omega (arith, length-map members value_of)))

  -- before the first one
  pub none_yet : (ts : List TypeName) (start : List ℕ) → start ≡ start ++ members_text d left ts []
  none_yet ts start = sym (append-nil start) ∙ ap (λ texts. start ++ listed text_itself texts) (sym (no_texts (map (text_of d left) ts)))

  -- of a struct or a tuple, and of what is none
  pub group_shown : (ts : List TypeName) (v : Val) (members slice : List Val) → v ≡ val.Group members → slice ≡ members
      → group_text d left ts (value_of v) ≡ codes "(" ++ members_text d left ts (map value_of slice) ++ codes ")"
  group_shown ts v members slice is same =
      ap (λ o. grouped (map (text_of d left) ts) o) (ap (λ x. members_of (value_of x)) is ∙ members-Group members)
      ∙ ap (λ vs. codes "(" ++ members_text d left ts (map value_of vs) ++ codes ")") (sym same)

  pub ungrouped : (ts : List TypeName) (v u : Val) → v ≡ u → members_of (value_of u) ≡ None → group_text d left ts (value_of v) ≡ codes "()"
  ungrouped ts v u is none =
      let ws = map (text_of d left) ts in
      ap (λ o. grouped ws o) (ap (λ x. members_of (value_of x)) is ∙ none) ∙ ap (λ texts. in_parens text_itself texts) (no_texts ws)
