-- What is computed of the grammar, production by production: its sets are closed, and the next token chooses.
use Rattle.std.proofs.Common.{◌≡◌, ℕ, ◌+◌, List, [], ◌∷◌, refl, Bool, true, false}
use Rattle.std.specs.Prelude.{⊤, Option, Some, None, ◌&&◌, ◌||◌, ◌==◌, nat_lt}
use Rattle.instruction_table.specs.declared.op.Op.TheVariants as op
use Rattle.sil_grammar_classes.specs.declared.classes.Keyword.TheVariants as k
use Rattle.sil_grammar_classes.specs.declared.classes.AtWord.TheVariants as a
use Rattle.sil_grammar_classes.specs.declared.classes.Class.{Class}
use Rattle.sil_grammar_classes.specs.declared.classes.Class.TheVariants as c
use Rattle.sil_grammar_tables.specs.declared.grammar.Terminal.{Terminal}
use Rattle.sil_grammar_tables.specs.declared.grammar.Terminal.TheVariants as t
use Rattle.sil_grammar_tables.specs.declared.grammar.Nonterminal.{Nonterminal}
use Rattle.sil_grammar_tables.specs.declared.grammar.Nonterminal.TheVariants as n
use Rattle.sil_grammar_tables.specs.declared.grammar.Symbol.{Symbol}
use Rattle.sil_grammar_tables.specs.declared.grammar.Symbol.TheVariants.{Read, Part}
use Rattle.sil_grammar_tables.specs.declared.grammar.Production.{Production}
use Rattle.sil_grammar_tables.specs.declared.grammar.Production.TheVariants as p
use Rattle.sil_grammar_shape.specs.inner.ClassNumbers.{keyword_number, at_number, punctuation_number, class_number, accepts}
use Rattle.sil_grammar_tables.specs.Grammar.{written, body, alternatives}
use Rattle.sil_grammar_tables.specs.Shortest.{shortest}
use Rattle.sil_grammar_shape.specs.inner.Choice.{has_class, has, started, row_inside, row_at_end, or_empty, choose}
use Rattle.sil_grammar_tables.specs.inner.Starts.{starts, empty_choice}
use Rattle.sil_grammar_shape.proofs.Sets.{first, follow, ends, nullable, weight, needed}
use Rattle.sil_grammar_tables.proofs.Unfolded.{rows}
use Rattle.sil_grammar_shape.specs.inner.ParseTable.{part_number}
use Rattle.sil_grammar_shape.proofs.Numbered.{all_looks, fixed_looks, each_look, is_it, production_number}

-- whether this may come after a text of the part
unfoldable pub follows : Nonterminal → Option Class → Bool
follows part None = ends part
follows part (Some k) = has (follow part) (Some k)

unfoldable pub begins_one : Symbol → Option Class → Bool
begins_one (Read t) None = false
begins_one (Read t) (Some k) = accepts t k
begins_one (Part part) l = has (first part) l

unfoldable pub vanishes_one : Symbol → Bool
vanishes_one (Read t) = false
vanishes_one (Part part) = nullable part

-- whether a text of these symbols may begin so, and whether it may be empty
unfoldable pub begins : List Symbol → Option Class → Bool
begins [] l = false
begins (s ∷ ss) l = begins_one s l || (vanishes_one s && begins ss l)

unfoldable pub vanishes : List Symbol → Bool
vanishes [] = true
vanishes (s ∷ ss) = vanishes_one s && vanishes ss

unfoldable pub implies : Bool → Bool → Bool
implies true b = b
implies false b = true

-- what may come next where these symbols stand, and then what follows the part
unfoldable pub comes : Nonterminal → List Symbol → Option Class → Bool
comes part ss l = begins ss l || (vanishes ss && follows part l)

unfoldable pub fits_one : Nonterminal → Symbol → List Symbol → Bool
fits_one part (Read t) rest = true
fits_one part (Part inner) rest = each_look (λ l. implies (comes part rest l) (follows inner l))

-- what may come after each part of a body is among what follows that part
unfoldable pub fits : Nonterminal → List Symbol → Bool
fits part [] = true
fits part (s ∷ rest) = fits_one part s rest && fits part rest

unfoldable pub if_vanishes : Bool → ℕ → ℕ
if_vanishes true n = n
if_vanishes false n = 0

unfoldable pub weight_one : Symbol → ℕ
weight_one (Read t) = 0
weight_one (Part part) = weight part

-- more than the productions that are expanded before the next token is taken
unfoldable pub lead : List Symbol → ℕ
lead [] = 0
lead (s ∷ ss) = weight_one s + if_vanishes (vanishes_one s) (lead ss)

unfoldable pub is_way : Option Production → Nonterminal → Bool
is_way None part = true
is_way (Some q) part = part_number (written q) == part_number part

unfoldable pub needed_one : Symbol → ℕ
needed_one (Read t) = 1
needed_one (Part part) = needed part

-- how many steps the shortest text of these symbols has
unfoldable pub needed_all : List Symbol → ℕ
needed_all [] = 0
needed_all (s ∷ ss) = needed_one s + needed_all ss

-- a class for each terminal
unfoldable pub example : Terminal → Class
example t.AnyWord = c.Word k.Other
example t.TypeWord = c.Word k.Other
example t.AnyAt = c.At a.Other
example t.AnyText = c.OtherText
example t.RowWord = c.Word (k.Mnemonic op.IntegerLiteral)
example t.EndWord = c.Word (k.Mnemonic op.Br)
example (t.Just wanted) = wanted

-- what is unfolded where the grammar is computed with: its sets, the tokens that are looked at, and both
unfoldable sets : ⊤
unfolding written body first follow ends follows nullable has has_class begins_one begins vanishes_one vanishes rows
sets = tt

unfoldable looks : ⊤
unfolding accepts keyword_number at_number punctuation_number class_number implies comes each_look all_looks fixed_looks
looks = tt

unfoldable grammar : ⊤
unfolding sets looks
grammar = tt

unfoldable choices : ⊤
unfolding choose started row_inside row_at_end or_empty alternatives starts empty_choice
choices = tt

pub computed_first : (p : Production) → each_look (λ l. implies (begins (body p) l) (has (first (written p)) l)) ≡ true
unfolding grammar
computed_first p.WholeModule = refl
computed_first (p.Row op.IntegerLiteral) = refl
computed_first (p.Row _) = refl
computed_first _ = refl

pub computed_nullable : (p : Production) → implies (vanishes (body p)) (nullable (written p)) ≡ true
unfolding grammar
computed_nullable p.WholeModule = refl
computed_nullable (p.Row op.IntegerLiteral) = refl
computed_nullable (p.Row _) = refl
computed_nullable _ = refl

pub computed_follow : (p : Production) → fits (written p) (body p) ≡ true
unfolding grammar fits fits_one
computed_follow p.WholeModule = refl
computed_follow (p.Row op.IntegerLiteral) = refl
computed_follow (p.Row _) = refl
computed_follow _ = refl

-- the next token chooses each production: no two begin alike
pub computed_choice : (p : Production) → each_look (λ l. implies (comes (written p) (body p) l) (is_it (choose (written p) l) p)) ≡ true
unfolding grammar choices is_it production_number
computed_choice p.WholeModule = refl
computed_choice (p.Row op.IntegerLiteral) = refl
computed_choice (p.Row _) = refl
computed_choice _ = refl

pub computed_way : (part : Nonterminal) → each_look (λ l. is_way (choose part l) part) ≡ true
unfolding grammar choices is_way part_number
computed_way n.Module = refl
computed_way _ = refl

pub computed_weight : (p : Production) → nat_lt (lead (body p)) (weight (written p)) ≡ true
unfolding grammar lead weight_one if_vanishes weight
computed_weight p.WholeModule = refl
computed_weight (p.Row op.IntegerLiteral) = refl
computed_weight (p.Row _) = refl
computed_weight _ = refl

pub computed_needed : (part : Nonterminal) → (needed_all (body (shortest part)) + 1 == needed part) ≡ true
unfolding body shortest needed needed_one needed_all rows
computed_needed n.Module = refl
computed_needed _ = refl

pub shortest-way : (part : Nonterminal) → written (shortest part) ≡ part
unfolding shortest written rows
shortest-way n.Module = refl
shortest-way _ = refl

pub follows-start : follows n.Module None ≡ true
unfolding follows ends
follows-start = refl
