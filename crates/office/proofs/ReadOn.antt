-- Reading on, read by read; and what came of an hour. Assumes nothing.
use Rattle.std.proofs.Common.{◌≡◌, ℕ, ◌+◌, ◌-◌, ◌≤◌, Bool, List, [], ◌++◌, length, Option, sym, ap, ◌∙◌, append_assoc, append-nil, arith}
use Rattle.std.proofs.lemmas.List.{length-append}
use Rattle.std.proofs.KnownBytes.{Consumes-nil, Consumes-trans}
use Rattle.std.specs.Io.KnownBytes.{Consumes, IsAtEnd}
use Rattle.office.specs.Reading.{ReadsMore, ReadsUpTo, CountsRest}

-- so far, reading on put some bytes behind the old ones, and not more than asked for
pub record Sofar (known left : Option (List ℕ)) (limit : ℕ) (old new : List ℕ) : Type 0 where
  pub more : List ℕ
  pub put : new ≡ old ++ more
  pub taken : Consumes known left more
  pub within : length more ≤ limit - length old

pub nothing_yet : (known : Option (List ℕ)) (limit : ℕ) (old : List ℕ) → Sofar known known limit old old
nothing_yet known limit old =
    record { more = []; put = sym (append-nil old); taken = Consumes-nil known; within = omega arith }

pub one_more :
    (known left left' : Option (List ℕ)) (limit room : ℕ) (ended : Bool) (old mid new : List ℕ) → Sofar known left limit old mid →
    room + length mid ≡ limit → ReadsMore left left' room ended mid new → Sofar known left' limit old new
one_more known left left' limit room ended old mid new sofar within step =
    record {
      more = sofar.more ++ step.more;
      put = step.put ∙ ap (λ (xs : List ℕ). xs ++ step.more) sofar.put ∙ append_assoc old sofar.more step.more;
      taken = Consumes-trans known left left' sofar.more step.more sofar.taken step.taken;
      within =
          omega (
            arith,
            length-append sofar.more step.more,
            length-append old sofar.more,
            ap length sofar.put,
            sofar.within,
            step.within,
          );
    }

pub enough :
    (known left : Option (List ℕ)) (limit : ℕ) (old new : List ℕ) → Sofar known left limit old new → limit ≤ length new →
    ReadsUpTo known left limit old new
enough known left limit old new sofar full =
    record {
      more = sofar.more;
      put = sofar.put;
      taken = sofar.taken;
      within = sofar.within;
      whole = λ short. absurd (omega arith);
    }

pub ended :
    (known left : Option (List ℕ)) (limit : ℕ) (old new : List ℕ) → Sofar known left limit old new → IsAtEnd left →
    ReadsUpTo known left limit old new
ended known left limit old new sofar end =
    record {
      more = sofar.more;
      put = sofar.put;
      taken = sofar.taken;
      within = sofar.within;
      whole = λ short. end;
    }

-- so far, so many bytes came
pub record Counted (known left : Option (List ℕ)) (before n : ℕ) : Type 0 where
  pub rest : List ℕ
  pub taken : Consumes known left rest
  pub count : n ≡ before + length rest

pub none_counted : (known : Option (List ℕ)) (before : ℕ) → Counted known known before before
none_counted known before = record { rest = []; taken = Consumes-nil known; count = omega arith }

pub more_counted :
    (known left left' : Option (List ℕ)) (before n n' room : ℕ) (ended : Bool) (old new : List ℕ) →
    Counted known left before n → ReadsMore left left' room ended old new → old ≡ [] → n' ≡ n + length new →
    Counted known left' before n'
more_counted known left left' before n n' room ended old new counted step none is =
    record {
      rest = counted.rest ++ step.more;
      taken = Consumes-trans known left left' counted.rest step.more counted.taken step.taken;
      count =
          omega (
            arith,
            is,
            counted.count,
            length-append counted.rest step.more,
            ap length step.put,
            length-append old step.more,
            ap length none,
          );
    }

pub all_counted :
    (known left : Option (List ℕ)) (before n : ℕ) → Counted known left before n → IsAtEnd left → CountsRest known left before n
all_counted known left before n counted end =
    record { rest = counted.rest; taken = counted.taken; count = counted.count; at_end = end }
