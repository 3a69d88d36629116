-- Worked examples, by computation: runs of a small exchange, and what comes of them.
mod DueRoutes
mod Altered
mod Recorded
mod FirstRoute
mod KeptAlive
mod LossInMidMessage
mod HalfTaken
mod Refreshed
mod Commanded
mod NeverSent
mod FirstAnswers
mod Senders
