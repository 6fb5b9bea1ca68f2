-- The fake of a dialer: what its links take and play, when its calls fail, and its state after each call.
use Rattle.std.specs.Prelude.{◌≡◌, ℕ, ◌-◌, ◌⊎◌, List, [], ◌∷◌, drop, length, map, take}
use Rattle.world_traits.specs.Causes.{one_more}
use Rattle.world_traits.specs.Fakes.{ScheduleState, FailsNext, new_schedule, after_success, after_failure}
use Rattle.world_traits.specs.Links.{Answer, Bytes, Quiet, Closed, Failed, Links, IsDown, no_links, after_hang_up, with_failure, with_link, with_receipt, with_bytes}
use Rattle.world_traits.specs.declared.play.Move.{Move}
use Rattle.world_traits.specs.declared.play.Move.TheVariants as move
use Rattle.world_traits.specs.declared.play.PlayLink.{PlayLink}

-- how many bytes a link still takes, and what its receives are to answer, where bytes may be given in parts
pub record Play : Type 0 where
  pub takes : ℕ
  pub moves : List Answer

-- the answer that a move plays
abbrev pub answer_of_move : Move → Answer
answer_of_move (move.Bytes bytes) = Bytes bytes.items
answer_of_move move.Quiet = Quiet
answer_of_move move.Closed = Closed
answer_of_move move.Fail = Failed

-- a link from its begin
abbrev pub play_of : PlayLink → Play
play_of link = record { takes = link.takes; moves = map answer_of_move link.moves.items }

-- a link that takes nothing and plays nothing
abbrev pub no_play : Play
no_play = record { takes = 0; moves = [] }

-- bytes that are there, or that nothing came
abbrev pub some_bytes : List ℕ → Answer
some_bytes [] = Quiet
some_bytes (byte ∷ bytes) = Bytes (byte ∷ bytes)

-- what a receive with so much room answers: the first of the moves, of bytes as many as find room
abbrev pub next_answer : ℕ → List Answer → Answer
next_answer room [] = Quiet
next_answer room (Bytes bytes ∷ moves) = some_bytes (take room bytes)
next_answer room (Quiet ∷ moves) = Quiet
next_answer room (Closed ∷ moves) = Closed
next_answer room (Failed ∷ moves) = Failed

-- bytes that are left to play before other moves
abbrev pub moves_with : List ℕ → List Answer → List Answer
moves_with [] moves = moves
moves_with (byte ∷ bytes) moves = Bytes (byte ∷ bytes) ∷ moves

-- the moves that are left after that receive
abbrev pub next_moves : ℕ → List Answer → List Answer
next_moves room [] = []
next_moves room (Bytes bytes ∷ moves) = moves_with (drop room bytes) moves
next_moves room (Quiet ∷ moves) = moves
next_moves room (Closed ∷ moves) = moves
next_moves room (Failed ∷ moves) = moves

-- The record of the links, the links that weren't dialed yet, what is left of the link that is up, which calls fail, and
-- the count of refusals for memory. Where no link is up, nothing is left of one.
pub record PlayState : Type 0 where
  pub links : Links
  pub plays : List Play
  pub play : Play
  pub schedule : ScheduleState
  pub starved : ℕ

-- no call yet
abbrev pub new_dialer : List Play → List ℕ → PlayState
new_dialer plays failing = record { links = no_links; plays = plays; play = no_play; schedule = new_schedule failing; starved = 0 }

-- the first of some links
abbrev pub first_play : List Play → Play
first_play [] = no_play
first_play (play ∷ plays) = play

-- a dial is to fail: it is listed, or there is no link that wasn't dialed yet
abbrev pub FailsDial : PlayState → Type 0
FailsDial state = FailsNext state.schedule ⊎ (state.plays ≡ [])

-- a send is to fail: it is listed, no link is up, or the link takes no byte more
abbrev pub FailsSend : PlayState → Type 0
FailsSend state = FailsNext state.schedule ⊎ IsDown state.links ⊎ (state.play.takes ≡ 0)

-- a receive is to fail: it is listed, no link is up, or the link is to fail it
abbrev pub FailsReceive : PlayState → Type 0
FailsReceive state = FailsNext state.schedule ⊎ IsDown state.links ⊎ (next_answer 0 state.play.moves ≡ Failed)

-- after a dial that worked
abbrev pub after_good_dial : List ℕ → ℕ → PlayState → PlayState
after_good_dial host port state = record {
  links = with_link host port state.links;
  plays = drop 1 state.plays;
  play = first_play state.plays;
  schedule = after_success state.schedule;
  starved = state.starved;
}

-- after a send that took these bytes
abbrev pub after_good_send : List ℕ → PlayState → PlayState
after_good_send bytes state = record state {
  links = with_bytes bytes state.links;
  play = record state.play { takes = state.play.takes - length bytes };
  schedule = after_success state.schedule;
}

-- after a receive that worked, with so much room
abbrev pub after_good_receive : ℕ → PlayState → PlayState
after_good_receive room state = record state {
  links = with_receipt (next_answer room state.play.moves) state.links;
  play = record state.play { moves = next_moves room state.play.moves };
  schedule = after_success state.schedule;
}

-- after a dial or a send that was to fail
abbrev pub after_bad_call : PlayState → PlayState
after_bad_call state = record state { schedule = after_failure state.schedule }

-- after a receive that was to fail
abbrev pub after_bad_receive : PlayState → PlayState
after_bad_receive state = record state { links = with_failure state.links; play = no_play; schedule = after_failure state.schedule }

-- the same, with one refusal for memory more
abbrev pub short_of_memory : PlayState → PlayState
short_of_memory state = record state { starved = one_more state.starved }

-- after a hang-up
abbrev pub after_end : PlayState → PlayState
after_end state = record state { links = after_hang_up state.links; play = no_play }
