-- One more piece in the loops of `read_all` and `write_all`.
use Rattle.std.proofs.Common.{◌≡◌, ℕ, Result, Err, ◌+◌, ◌-◌, ◌≤◌, List, Option, ◌++◌, length, take, drop, sym, ap, ◌∙◌, subst, length-append, length-drop}
use Rattle.std.proofs.Math.Seq.{take-add, take-length}
use Rattle.std.proofs.lemmas.List.{length-take-le}
use Rattle.std.proofs.KnownBytes.{Appends-trans, Consumes-trans}
use Rattle.std.specs.Prelude.{IfErr}
use Rattle.std.specs.Io.KnownBytes.{Appends, Consumes}
use Rattle.sil_io.specs.declared.reading.ReadEnd.{ReadEnd}
use Rattle.sil_io.specs.declared.reading.ReadEnd.TheVariants.{Memory}
use Rattle.sil_io.specs.Reading.{GivesUp}

-- the rest of a list behind its first n, as code slices it
pub take-rest : (n : ℕ) (xs : List ℕ) → take (length xs - n) (drop n xs) ≡ drop n xs
take-rest n xs = ap (λ m. take m (drop n xs)) (sym (length-drop n xs)) ∙ take-length (drop n xs)

-- a sink took the first n bytes, and then m of the rest
pub Appends-more : (a b c : Option (List ℕ)) (n m : ℕ) (xs : List ℕ) → Appends a b (take n xs) → Appends b c (take m (take (length xs - n) (drop n xs))) → Appends a c (take (n + m) xs)
Appends-more a b c n m xs first second =
    let joined = ap (λ r. take n xs ++ take m r) (take-rest n xs) ∙ sym (take-add n m xs) in
    subst (Appends a c) joined (Appends-trans a b c _ _ first second)

-- a source gave xs, and then the first n bytes of a buffer
pub record GivesMore (old new : Option (List ℕ)) (xs piece : List ℕ) (n : ℕ) : Type 0 where
  pub taken : Consumes old new (xs ++ take n piece)
  pub count : length (xs ++ take n piece) ≡ length xs + n

pub gives_more : (a b c : Option (List ℕ)) (xs piece : List ℕ) (n : ℕ) → n ≤ length piece → Consumes a b xs → Consumes b c (take n piece) → GivesMore a c xs piece n
gives_more a b c xs piece n within first second = record {
  taken = Consumes-trans a b c xs (take n piece) first second;
  count = length-append xs (take n piece) ∙ ap (λ m. length xs + m) (length-take-le n piece within);
}

-- a reading that ended for want of memory
pub no_memory : {T S : Type 0} (gave : S → List ℕ → S → Type 0) (missed : S → S → Type 0) (limit : ℕ) (old new : S) (r : Result T ReadEnd) {end : ReadEnd}
    → r ≡ Err end → end ≡ Memory → GivesUp gave missed limit old new Memory → IfErr r (GivesUp gave missed limit old new)
no_memory gave missed limit old new r is memory known = subst (λ r. IfErr r (GivesUp gave missed limit old new)) (sym (is ∙ ap Err memory)) known
