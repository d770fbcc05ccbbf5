-- How places go on from byte to byte: each place that is kept is the text's.
use Rattle.std.proofs.Common.{◌≡◌, ℕ, zero, suc, ◌+◌, ◌-◌, ◌<◌, ◌≤◌, true, false, List, length, get_or, take, drop, sym, ap, ◌∙◌, arith, add-zero, length-take, get_or-drop}
use Rattle.std.specs.Prelude.{not}
use Rattle.std.specs.List.{suffix_len}
use Rattle.std.proofs.lemmas.List.Sums.{count_by-le-length, count_by_more_no, suffix_len-le-length, suffix_len-take_yes}
use Rattle.sil_ast.specs.declared.place.Place.{Place}
use Rattle.sil_ast.specs.TextBytes.Bytes.{is_line_feed, is_in_line}
use Rattle.sil_lexer.specs.Places.{place_of, ahead_of, IsPlaceIn}

-- a line or a column is at most one more than the bytes before it
pub bounds : (text : List ℕ) (at : Place) → IsPlaceIn text at → (at.line ≤ at.offset + 1) × (at.column ≤ at.offset + 1)
bounds text at placed =
    let before = take at.offset text in
    let size = length-take at.offset text in
    let line = ap (λ (p : Place). p.line) placed.exact in
    let column = ap (λ (p : Place). p.column) placed.exact in
    (omega (arith, size, line, count_by-le-length is_line_feed before), omega (arith, size, column, suffix_len-le-length is_in_line before))

module _ (text : List ℕ) (o : ℕ) (some_byte : o < length text) where
  before_next : o + 1 - 1 ≡ o
  before_next = omega arith

  -- behind a byte that is no line feed
  pub place_of-same_line : is_line_feed (get_or text o 0) ≡ false → place_of text (o + 1) ≡ ahead_of (place_of text o) 1
  place_of-same_line no_feed =
      let lines = count_by_more_no is_line_feed text o 0 some_byte no_feed in
      let last : is_in_line (get_or text (o + 1 - 1) 0) ≡ true = rw before_next (ap not no_feed) in
      let columns = suffix_len-take_yes is_in_line text (o + 1) 0 (omega arith) (omega arith) last in
      let same : 1 + suffix_len is_in_line (take (o + 1 - 1) text) + 1 ≡ suffix_len is_in_line (take o text) + 1 + 1 = rw before_next (omega arith) in
      λ i. record { offset = o + 1; line = lines i + 1; column = (ap (λ n. n + 1) columns ∙ same) i }

-- behind bytes of one line
pub place_of-line : (text : List ℕ) (o n : ℕ) → o + n ≤ length text → ((k : ℕ) → k < n → is_line_feed (get_or text (o + k) 0) ≡ false)
    → place_of text (o + n) ≡ ahead_of (place_of text o) n
place_of-line text o zero inside no_feeds = simp add-zero
place_of-line text o (suc n) inside no_feeds =
    let more : o + suc n ≡ o + n + 1 = omega arith in
    let last = place_of-same_line text (o + n) (omega arith) (no_feeds n (omega arith)) in
    let before = place_of-line text o n (omega arith) (λ k below. no_feeds k (omega arith)) in
    let column : (place_of text o).column + n + 1 ≡ (place_of text o).column + suc n = omega arith in
    ap (place_of text) more ∙ last ∙ ap (λ p. ahead_of p 1) before ∙ (λ i. record { offset = sym more i; line = (place_of text o).line; column = column i })

-- a place stays exact along bytes of one line
pub place_ahead : (text : List ℕ) (at : Place) (n : ℕ) → IsPlaceIn text at → at.offset + n ≤ length text
    → ((k : ℕ) → k < n → is_line_feed (get_or (drop at.offset text) k 0) ≡ false) → IsPlaceIn text (ahead_of at n)
place_ahead text at n placed inside no_feeds = record {
  inside = inside;
  exact = ap (λ p. ahead_of p n) placed.exact ∙ sym (place_of-line text at.offset n inside (λ k below. sym (ap is_line_feed (get_or-drop at.offset text k 0)) ∙ no_feeds k below));
}

-- and behind one byte of its line
pub place_behind : (text : List ℕ) (at : Place) → IsPlaceIn text at → at.offset < length text → is_line_feed (get_or text at.offset 0) ≡ false
    → IsPlaceIn text (ahead_of at 1)
place_behind text at placed some_byte no_feed = record {
  inside = omega arith;
  exact = ap (λ p. ahead_of p 1) placed.exact ∙ sym (place_of-same_line text at.offset some_byte no_feed);
}
