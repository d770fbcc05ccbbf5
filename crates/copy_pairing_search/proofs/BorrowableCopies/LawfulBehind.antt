-- Marks that are in place behind others, one after another.
use Rattle.std.proofs.Common.{List, [], ◌∷◌, ◌++◌, sym, subst, append_assoc}
use Rattle.std.proofs.lemmas.List.{append-nil}
use Rattle.reach_engine_marks.specs.PathPatterns.Lawful.{AreLawful}

module _ {M : Type 0} (InPlace : List M → M → Type 0) where
  abbrev pub LawfulBehind : List M → List M → Type 0
  LawfulBehind before [] = Unit {0}
  LawfulBehind before (m ∷ marks) = InPlace before m × LawfulBehind (before ++ m ∷ []) marks

  pub behind_append : (before marks more : List M) → LawfulBehind before marks → LawfulBehind (before ++ marks) more → LawfulBehind before (marks ++ more)
  behind_append before [] more a b = subst (λ v. LawfulBehind v more) (append-nil before) b
  behind_append before (m ∷ marks) more a b =
      (a.0, behind_append (before ++ m ∷ []) marks more a.1 (subst (λ v. LawfulBehind v more) (sym (append_assoc before (m ∷ []) marks)) b))

  behind_at : (before front rest : List M) (m : M) → LawfulBehind before (front ++ m ∷ rest) → InPlace (before ++ front) m
  behind_at before [] rest m h = subst (λ v. InPlace v m) (sym (append-nil before)) h.0
  behind_at before (x ∷ front) rest m h = subst (λ v. InPlace v m) (append_assoc before (x ∷ []) front) (behind_at (before ++ x ∷ []) front rest m h.1)

  pub behind_lawful : (marks : List M) → LawfulBehind [] marks → AreLawful InPlace marks
  behind_lawful marks h before rest m e = behind_at [] before rest m (subst (LawfulBehind []) e h)
