-- What a call does to a source or a sink, and what reading a whole input and writing a whole text leave.
use Rattle.std.specs.Prelude.{◌≡◌, ℕ, ◌<◌, ◌≤◌, List, ◌++◌, length, Option}
use Rattle.std.specs.Io.KnownBytes.{Consumes, Appends, IsAtEnd}
use Rattle.world_traits.specs.Causes.{Rose}
use Rattle.stream_io.specs.declared.input.InputFault.{InputFault}
use Rattle.stream_io.specs.declared.input.InputFault.TheVariants as faults

-- what a source or a sink tells before and after a call: its bytes, where it does, and its count of faults
pub record Change : Type 0 where
  pub old : Option (List ℕ)
  pub new : Option (List ℕ)
  pub faults_old : ℕ
  pub faults_new : ℕ

-- the change of a stream, by what it tells of its bytes and faults
abbrev pub change : {S : Type 0} → (S → Option (List ℕ)) → (S → ℕ) → S → S → Change
change bytes faults old new = record {
  old = bytes old;
  new = bytes new;
  faults_old = faults old;
  faults_new = faults new;
}

-- a read or a write of the stream failed in the call
abbrev pub Fails : Change → Type 0
Fails stream = Rose stream.faults_old stream.faults_new

-- no read or write of the stream failed in the call
abbrev pub Works : Change → Type 0
Works stream = stream.faults_new ≡ stream.faults_old

-- these bytes were read, and they are no more than the limit
pub record ReadsFront (limit : ℕ) (read : List ℕ) (input : Change) : Type 0 where
  pub bytes : Consumes input.old input.new read
  pub within : length read ≤ limit

-- these bytes were read, they are all of the input, they are no more than the limit, and no read failed
pub record ReadsWhole (limit : ℕ) (read : List ℕ) (input : Change) : Type 0 where
  pub bytes : Consumes input.old input.new read
  pub within : length read ≤ limit
  pub at_end : IsAtEnd input.new
  pub works : Works input

-- these bytes were read, they are more than the limit, and no read failed
pub record ReadsBeyond (limit : ℕ) (read : List ℕ) (input : Change) : Type 0 where
  pub bytes : Consumes input.old input.new read
  pub beyond : limit < length read
  pub works : Works input

-- why a source was not read whole, and what was read of it: it failed, it gave a byte beyond the limit, or
-- memory ran out
abbrev pub StopsReading : InputFault → ℕ → List ℕ → Change → Type 0
StopsReading faults.Failed limit read input = Fails input × ReadsFront limit read input
StopsReading faults.TooLong limit read input = ReadsBeyond limit read input
StopsReading faults.NoMemory limit read input = Works input × ReadsFront limit read input

-- the known bytes grow by the first bytes of a text
abbrev pub AppendsFront : Option (List ℕ) → Option (List ℕ) → List ℕ → Type 0
AppendsFront old new text = (front rest : List ℕ) × (text ≡ front ++ rest) × Appends old new front

-- the output gained a text of this kind, and no write failed
abbrev pub GainsText : (List ℕ → Type 0) → Change → Type 0
GainsText IsText output = (text : List ℕ) × IsText text × Appends output.old output.new text × Works output

-- the output gained the first bytes of a text of this kind
abbrev pub GainsFront : (List ℕ → Type 0) → Change → Type 0
GainsFront IsText output = (text : List ℕ) × IsText text × AppendsFront output.old output.new text

-- nothing was done with the output
abbrev pub GainsNothing : Change → Type 0
GainsNothing output = (output.new ≡ output.old) × Works output
