-- Laws of replies: the table gives each a number of its own, so that its number says which it is, and so what an answer tells says
-- which answer it is. By computation. Assumes nothing.
use Rattle.std.proofs.Common.{◌≡◌, ℕ, [], ◌∷◌, get_or, sym, refl, ap, ◌∙◌}
use Rattle.control.specs.Reply.{reply_number}
use Rattle.control.specs.Told.{Told, told}
use Rattle.control.specs.declared.answer.Answer.{Answer}
use Rattle.control.specs.declared.reply.Reply.{Reply}
use Rattle.control.specs.declared.reply.Reply.TheVariants.{Done, TooHigh, Nothing, Forbidden, Lines, NoWord, Off, Filtered, Lost, Wait, Busy, Outside}

by_number : ℕ → Reply
by_number n =
    get_or (Done ∷ TooHigh ∷ Nothing ∷ Forbidden ∷ Lines ∷ NoWord ∷ Off ∷ Filtered ∷ Lost ∷ Outside ∷ Wait ∷ Busy ∷ []) n Outside

number_own : (r : Reply) → by_number (reply_number r) ≡ r
unfolding by_number
number_own Done = refl
number_own TooHigh = refl
number_own Nothing = refl
number_own Forbidden = refl
number_own Lines = refl
number_own NoWord = refl
number_own Off = refl
number_own Filtered = refl
number_own Lost = refl
number_own Wait = refl
number_own Busy = refl
number_own Outside = refl

-- "Any two replies allowed by a promise are shown equal": replies of one number are one reply
pub reply_one : (a b : Reply) → reply_number a ≡ reply_number b → a ≡ b
reply_one a b e = sym (number_own a) ∙ ap by_number e ∙ number_own b

-- an operation's promise, `told r` equal to a definition, leaves one answer of either chip
pub one_answer : {C : Type 0} (a b : Answer C) → told a ≡ told b → a ≡ b
one_answer {C} a b e =
    let reply : a.reply ≡ b.reply = reply_one a.reply b.reply (ap (λ (t : Told C). t.number) e) in
    λ i. record { chip = (e i).chip; value = (e i).value; reply = reply i }
