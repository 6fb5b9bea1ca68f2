use Rattle.std.proofs.lemmas.List.Concat.{flat_map-append}
use Rattle.mbap_frames.specs.Frame.{frame_spelling}
use Rattle.mbap_frames.proofs.Streams.{all_frames, read_behind, read_in_front, fault_behind, fault_behind-append}
use Rattle.mbap_frames.proofs.Feedings.{one_more, calls_go_on}
use Rattle.mbap_frames.proofs.Faults.{stay_bad}
use Rattle.mbap_frames.proofs.laws.known_frames_are_first.Goals as goal

pub returns-clause-behind : goal.returns-clause-behind
returns-clause-behind c = read_behind

pub returns-clause-in_front : goal.returns-clause-in_front
returns-clause-in_front c = read_in_front

pub returns-clause-fault : goal.returns-clause-fault
returns-clause-fault c = fault_behind

pub returns-clause-fault_stays : goal.returns-clause-fault_stays
returns-clause-fault_stays c = fault_behind-append

pub returns-clause-all_frames : goal.returns-clause-all_frames
returns-clause-all_frames c = all_frames

pub returns-clause-all_bytes : goal.returns-clause-all_bytes
returns-clause-all_bytes c = flat_map-append frame_spelling

pub returns-clause-one_call : goal.returns-clause-one_call
returns-clause-one_call c = one_more

pub returns-clause-calls : goal.returns-clause-calls
returns-clause-calls c = calls_go_on

pub returns-clause-after_fault : goal.returns-clause-after_fault
returns-clause-after_fault c = λ feedings kept after fault stands len are.
    let stay = stay_bad kept fault feedings after stands len are in (stay.each, stay.kept)
