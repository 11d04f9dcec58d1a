-- What an input looks like that is not what was asked for. Assumes nothing: these are definitions.
--
--   hint_shown h       a hint in words
--   begins bs w        whether the bytes begin with w
--   byte_order_mark    the byte order mark of UTF-8
--   hour_hint bs       what the first bytes of an hour look like, if not like an hour's: a published result, or a byte order mark
--   space_at_end bs    whether a space stands before a line break
--   text_hint bs       what a text looks like that is not in the form: a byte order mark, carriage returns, a space at a line end
use Rattle.std.specs.Prelude.{ℕ, ◌==◌, ◌&&◌, Bool, cond, nat_eq, List, [], ◌∷◌, drop, codes, Some, None, Option}
use Rattle.std.specs.List.{starts_with, list_any, zip}
use Rattle.office.specs.declared.hints.Hint.{Hint}
use Rattle.office.specs.declared.hints.Hint.TheVariants.{ResultForHour, ByteOrderMark, CarriageReturns, SpaceAtLineEnd}

abbrev pub hint_shown : Hint → List ℕ
hint_shown ResultForHour = codes "the hour begins like a published result: is it the wrong file?"
hint_shown ByteOrderMark = codes "there is a byte order mark at the beginning"
hint_shown CarriageReturns = codes "there are carriage returns: lines end in LF alone"
hint_shown SpaceAtLineEnd = codes "there is a space at the end of a line"

abbrev pub begins : List ℕ → List ℕ → Bool
begins bs word = starts_with nat_eq bs word

abbrev pub byte_order_mark : List ℕ
byte_order_mark = 239 ∷ 187 ∷ 191 ∷ []

abbrev pub hour_hint : List ℕ → Option Hint
hour_hint bs =
    cond (begins bs (codes "worth ")) (Some ResultForHour)
    (cond (begins bs byte_order_mark) (Some ByteOrderMark) None)

abbrev pub space_at_end : List ℕ → Bool
space_at_end bs = list_any (λ p. p.0 == 32 && p.1 == 10) (zip bs (drop 1 bs))

abbrev pub text_hint : List ℕ → Option Hint
text_hint bs =
    cond (begins bs byte_order_mark) (Some ByteOrderMark)
    (cond (list_any (λ b. b == 13) bs) (Some CarriageReturns) (cond (space_at_end bs) (Some SpaceAtLineEnd) None))
