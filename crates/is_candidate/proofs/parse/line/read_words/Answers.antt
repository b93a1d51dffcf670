use Rattle.is_candidate.specs.Faults.{fault_text}
use Rattle.is_candidate.proofs.Common.{◌≡◌, Answer, Err, Keys, keys_of, List, no_keys, Ok, Place, place_of, ReadsKeys, ReadsPlace, refl}
use Rattle.is_candidate.proofs.Common.{subst, ℕ}
use Rattle.is_candidate.proofs.parse.line.read_words.Goals as goal

at-place : (r : Answer Place) {ws vs : List (List ℕ)} → ws ≡ vs → ReadsPlace ws r → ReadsPlace vs r
at-place r e h = let P : List (List ℕ) → Type 0 = λ ws. ReadsPlace ws r in subst P e h

at-keys : (r : Answer Keys) {ws vs : List (List ℕ)} → ws ≡ vs → ReadsKeys no_keys ws r → ReadsKeys no_keys vs r
at-keys r e h = let P : List (List ℕ) → Type 0 = λ ws. ReadsKeys no_keys ws r in subst P e h

pub returns-in-Err-read_place : goal.returns-in-Err-read_place
returns-in-Err-read_place c =
    let fault : Answer Place = Err (fault_text c.in-Err-read_place.fault) in
    (_, c.in-Ok.ensures, (fault, at-place fault c.following.ensures c.in-Err-read_place.ensures, refl))

pub returns-in-Ok-read_keys : goal.returns-in-Ok-read_keys
returns-in-Ok-read_keys c =
    let place : Answer Place = Ok (place_of c.in-Ok-read_place.place) in
    let keys : Answer Keys = Ok (keys_of c.in-Ok-read_keys.keys) in (
      _,
      c.in-Ok.ensures,
      (place, at-place place c.following.ensures c.in-Ok-read_place.ensures, (keys, at-keys keys c.following-2.ensures c.in-Ok-read_keys.ensures, refl)),
    )

pub returns-in-Err-read_keys : goal.returns-in-Err-read_keys
returns-in-Err-read_keys c =
    let place : Answer Place = Ok (place_of c.in-Ok-read_place.place) in
    let fault : Answer Keys = Err (fault_text c.in-Err-read_keys.fault) in (
      _,
      c.in-Ok.ensures,
      (place, at-place place c.following.ensures c.in-Ok-read_place.ensures, (fault, at-keys fault c.following-2.ensures c.in-Err-read_keys.ensures, refl)),
    )
