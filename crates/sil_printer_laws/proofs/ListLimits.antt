-- A list that is written of one within a limit passes no limit.
use Rattle.std.proofs.Common.{◌≡◌, ℕ, ◌≤◌, List, length, map, None, arith}
use Rattle.std.specs.List.{AllZip}
use Rattle.std.proofs.lemmas.List.{length-map}
use Rattle.std.proofs.lemmas.Slice.Zip.{AllZip-long}
use Rattle.sil_ast.specs.declared.place.Place.{Place}
use Rattle.sil_rules.specs.declared.limit_word.LimitWord.{LimitWord}
use Rattle.sil_grammar_tree.specs.WrittenTree.Faults.{passed}
use Rattle.sil_printer_laws.proofs.PartLimits.{not_passed}

pub none_passed : {A B : Type 0} (R : A → B → Type 0) (place : B → Place) (what : LimitWord) (most : ℕ) (xs : List A) (ys : List B) → AllZip R xs ys → length xs ≤ most
    → passed what most (map place ys) ≡ None
none_passed R place what most xs ys h few =
    let as_many : length ys ≡ length xs = AllZip-long R xs ys h in
    let mapped : length (map place ys) ≡ length ys = length-map ys place in
    not_passed what most (map place ys) (omega (arith, as_many, mapped))
