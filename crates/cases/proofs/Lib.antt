mod Runnable
