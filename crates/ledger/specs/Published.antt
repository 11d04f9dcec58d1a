-- What is published of an hour. Assumes nothing: these are definitions.
--
--   ClearedText m t     t is the text of what is found of the market m: a count of pushes, an outcome and prices with all that is
--                       promised of them, and money that closes
--   PublishedAs o m t   t is the row of the refusal o, or, where there is none, the text of the market m
--   Published bs t      t is what is published of the bytes bs: the row of their refusal, or the text of the hour that they say
use Rattle.std.specs.Prelude.{◌≡◌, ℕ, List, [], ◌∷◌, Some, None, Option}
use Rattle.hour.specs.Bytes.{market_of, refusal_of}
use Rattle.hour.specs.Market.{Market, Outcome}
use Rattle.hour.specs.Text.{row, refused}
use Rattle.hour.specs.declared.refusals.Refusal.{Refusal}
use Rattle.prices.specs.Found.{Found, Promised}
use Rattle.ledger.specs.Promises.{Evens}
use Rattle.ledger.specs.Text.{result_of}

pub record ClearedText (m : Market) (text : List ℕ) : Type 0 where
  pub pushes : ℕ
  pub outcome : Outcome
  pub prices : List ℕ
  pub found : Found m pushes outcome prices
  pub promised : Promised m pushes outcome prices
  pub even : Evens m outcome prices
  pub text_is : text ≡ result_of m outcome prices pushes

abbrev pub PublishedAs : Option Refusal → Market → List ℕ → Type 0
PublishedAs (Some refusal) m text = text ≡ row (refused refusal ∷ [])
PublishedAs None m text = ClearedText m text

abbrev pub Published : List ℕ → List ℕ → Type 0
Published bs text = PublishedAs (refusal_of bs) (market_of bs) text
