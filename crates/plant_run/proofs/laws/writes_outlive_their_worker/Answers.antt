use Rattle.plant_book.specs.Life.{joined_book}
use Rattle.plant_run.specs.Works.{HasFullBook}
use Rattle.plant_run.proofs.Leaving.{left, stays}
use Rattle.plant_run.proofs.laws.writes_outlive_their_worker.Goals as goal

pub returns : goal.returns
returns c = record {
  left = λ may_give opened life before after links links_now faults faults_now works is.
      left may_give opened (joined_book life) (HasFullBook life) before after links links_now faults faults_now works is.book.answered;
  stays = λ may_give opened life before after links links_now faults faults_now works write is.
      stays may_give opened (joined_book life) (HasFullBook life) before after links links_now faults faults_now works write is.book.answered;
}
